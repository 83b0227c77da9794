-- A dataset has one record on each node, and one in the index.
use Rattle.std.proofs.Common.{◌≡◌, ℕ, List, [], ◌∷◌, map, refl, sym, ◌∙◌, ap}
use Rattle.scr_base.specs.declared.shape.DataId.{DataId}
use Rattle.scr_base.specs.declared.shape.Shape.{Shape}
use Rattle.scr_base.specs.declared.shape.Scheme.{Scheme}
use Rattle.scr_base.specs.declared.shape.Flags.{Flags}
use Rattle.dataset_desc.specs.declared.desc.Desc.{Desc}
use Rattle.filemap.specs.declared.rows.FileRow.{FileRow}
use Rattle.filemap.specs.Maps.{map_tree}
use Rattle.kvtree.specs.Entries.{Entries}
use Rattle.member_store.specs.Members.{member_body}
use Rattle.ckpt_model.specs.Dataset.{Dataset}
use Rattle.site_stands.specs.Described.{Describes}

row_one : (a b : FileRow) → a.name ≡ b.name → a.len ≡ b.len → a ≡ b
row_one a b name len = ap (λ (x : List ℕ). let r : FileRow = record { name = x; len = a.len } in r) name ∙ ap (λ (x : ℕ). let r : FileRow = record { name = b.name; len = x } in r) len

list_one : (a b : List FileRow) → map (λ (r : FileRow). r.name) a ≡ map (λ (r : FileRow). r.name) b → map (λ (r : FileRow). r.len) a ≡ map (λ (r : FileRow). r.len) b → a ≡ b
list_one [] [] names lens = refl
list_one [] (y ∷ ys) names lens = absurd (cc names)
list_one (x ∷ xs) [] names lens = absurd (cc names)
list_one (x ∷ xs) (y ∷ ys) names lens =
    let first : x ≡ y = row_one x y (let e : x.name ≡ y.name = cc names in e) (let e : x.len ≡ y.len = cc lens in e) in
    let rest : xs ≡ ys = list_one xs ys (let e : map (λ (r : FileRow). r.name) xs ≡ map (λ (r : FileRow). r.name) ys = cc names in e) (let e : map (λ (r : FileRow). r.len) xs ≡ map (λ (r : FileRow). r.len) ys = cc lens in e) in
    ap (λ (z : FileRow). z ∷ xs) first ∙ ap (λ (zs : List FileRow). y ∷ zs) rest

pub rows_one : (a b : List (List FileRow)) → map (map (λ (r : FileRow). r.name)) a ≡ map (map (λ (r : FileRow). r.name)) b → map (map (λ (r : FileRow). r.len)) a ≡ map (map (λ (r : FileRow). r.len)) b → a ≡ b
rows_one [] [] names lens = refl
rows_one [] (y ∷ ys) names lens = absurd (cc names)
rows_one (x ∷ xs) [] names lens = absurd (cc names)
rows_one (x ∷ xs) (y ∷ ys) names lens =
    let first : x ≡ y = list_one x y (let e : map (λ (r : FileRow). r.name) x ≡ map (λ (r : FileRow). r.name) y = cc names in e) (let e : map (λ (r : FileRow). r.len) x ≡ map (λ (r : FileRow). r.len) y = cc lens in e) in
    let rest : xs ≡ ys = rows_one xs ys (let e : map (map (λ (r : FileRow). r.name)) xs ≡ map (map (λ (r : FileRow). r.name)) ys = cc names in e) (let e : map (map (λ (r : FileRow). r.len)) xs ≡ map (map (λ (r : FileRow). r.len)) ys = cc lens in e) in
    ap (λ (z : List FileRow). z ∷ xs) first ∙ ap (λ (zs : List (List FileRow)). y ∷ zs) rest

pub told_rows : (shape : Shape) (desc other : Desc) (rows more : List (List FileRow)) (d : Dataset) → Describes shape desc rows d → Describes shape other more d → rows ≡ more
told_rows shape desc other rows more d a b = rows_one rows more (a.names ∙ sym b.names) (a.lengths ∙ sym b.lengths)

-- the body of a record, by the parts of a description
abbrev body_by : Flags → DataId → List ℕ → Scheme → ℕ → ℕ → ℕ → ℕ → List (List FileRow) → List ℕ
body_by flags which name scheme size nodes ranks node rows = Rattle.kvtree.specs.Encoding.encoding (
    Rattle.kvtree.specs.Entries.entry (Rattle.std.specs.Prelude.codes "DSET") (Rattle.dataset_desc.specs.Parts.dset_tree flags which.id name which.run)
    (Rattle.kvtree.specs.Entries.entry (Rattle.std.specs.Prelude.codes "FILES") (map_tree rows)
    (Rattle.kvtree.specs.Entries.entry (Rattle.std.specs.Prelude.codes "FORMAT") (Rattle.kvtree.specs.Lookup.leaf (Rattle.std.specs.Prelude.codes "1"))
    (Rattle.kvtree.specs.Entries.entry (Rattle.std.specs.Prelude.codes "NODE") (Rattle.kvtree.specs.Lookup.leaf (Rattle.std.specs.Prelude.decimal node))
    (Rattle.kvtree.specs.Entries.entry (Rattle.std.specs.Prelude.codes "SCHEME") (Rattle.dataset_desc.specs.Parts.scheme_tree scheme size)
    (Rattle.kvtree.specs.Entries.entry (Rattle.std.specs.Prelude.codes "SHAPE") (Rattle.dataset_desc.specs.Parts.shape_tree nodes ranks) Rattle.kvtree.specs.Entries.none))))))

body_is : (desc : Desc) (node : ℕ) (rows : List (List FileRow)) → member_body desc node rows ≡ body_by desc.flags desc.which desc.name desc.scheme desc.size desc.nodes desc.ranks node rows
unfolding member_body
body_is desc node rows = refl

-- what two descriptions that tell of one dataset spell is the same
pub body_one : (shape : Shape) (desc other : Desc) (rows more : List (List FileRow)) (d : Dataset) (node : ℕ) → Describes shape desc rows d → Describes shape other more d → member_body desc node rows ≡ member_body other node more
body_one shape desc other rows more d node a b =
    body_is desc node rows
    ∙ ap (λ (x : Flags). body_by x desc.which desc.name desc.scheme desc.size desc.nodes desc.ranks node rows) (a.flags ∙ sym b.flags)
    ∙ ap (λ (x : DataId). body_by other.flags x desc.name desc.scheme desc.size desc.nodes desc.ranks node rows) (a.which ∙ sym b.which)
    ∙ ap (λ (x : List ℕ). body_by other.flags other.which x desc.scheme desc.size desc.nodes desc.ranks node rows) (a.name ∙ sym b.name)
    ∙ ap (λ (x : Scheme). body_by other.flags other.which other.name x desc.size desc.nodes desc.ranks node rows) (a.scheme ∙ sym b.scheme)
    ∙ ap (λ (x : ℕ). body_by other.flags other.which other.name other.scheme x desc.nodes desc.ranks node rows) (a.size ∙ sym b.size)
    ∙ ap (λ (x : ℕ). body_by other.flags other.which other.name other.scheme other.size x desc.ranks node rows) (a.nodes ∙ sym b.nodes)
    ∙ ap (λ (x : ℕ). body_by other.flags other.which other.name other.scheme other.size other.nodes x node rows) (a.ranks ∙ sym b.ranks)
    ∙ ap (λ (x : List (List FileRow)). body_by other.flags other.which other.name other.scheme other.size other.nodes other.ranks node x) (told_rows shape desc other rows more d a b)
    ∙ sym (body_is other node more)
