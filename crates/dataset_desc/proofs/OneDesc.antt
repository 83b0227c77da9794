-- A tree has the parts of one description at most.
use Rattle.std.proofs.Common.{◌≡◌, ℕ, ◌==◌, List, Some, codes, IsTrue, decimal, refl, sym, ap, ◌∙◌, arith}
use Rattle.std.proofs.Props.{props}
use Rattle.std.specs.Prelude.{slice_index, if◌then◌else◌}
use mathlib.Core.HLevel.{is_prop→PathP}
use Rattle.scr_base.specs.declared.shape.Flags.{Flags}
use Rattle.scr_base.specs.declared.shape.Flags.TheVariants.{Ckpt, Output, Both}
use Rattle.scr_base.specs.declared.shape.Scheme.{Scheme}
use Rattle.scr_base.specs.declared.shape.Scheme.TheVariants.{Single, Partner, Xor, Rs}
use Rattle.kvtree.specs.Entries.{Entries}
use Rattle.kvtree.specs.Lookup.{entry_under, leaf}
use Rattle.dataset_desc.specs.Ranges.{is_desc}
use Rattle.dataset_desc.specs.Parts.{flags_key, scheme_key, shares_of, dset_tree, scheme_tree, shape_tree}
use Rattle.dataset_desc.specs.Descs.{HasParts}
use Rattle.dataset_desc.specs.declared.desc.Desc.{Desc}
use Rattle.dataset_desc.proofs.Same.{same_value, same_number}
use Rattle.dataset_desc.proofs.InRange.{in_bounds, small_shares, site_bounds, desc_ranges}

-- the flags of a key, by its first letter
flags_from : List ℕ → Flags
flags_from key = if slice_index key 0 == 99 then Ckpt else if slice_index key 0 == 111 then Output else Both

flags_back : (flags : Flags) → flags_from (flags_key flags) ≡ flags
unfolding flags_from
flags_back Ckpt = refl
flags_back Output = refl
flags_back Both = refl

scheme_from : List ℕ → ℕ → Scheme
scheme_from key shares = if slice_index key 0 == 115 then Single else if slice_index key 0 == 112 then Partner else if slice_index key 0 == 120 then Xor else Rs shares

scheme_back : (scheme : Scheme) → scheme_from (scheme_key scheme) (shares_of scheme) ≡ scheme
unfolding scheme_from
scheme_back Single = refl
scheme_back Partner = refl
scheme_back Xor = refl
scheme_back (Rs shares) = refl

same_flags_of : (f g : Flags) → flags_key f ≡ flags_key g → f ≡ g
same_flags_of f g e = sym (flags_back f) ∙ ap flags_from e ∙ flags_back g

same_scheme_of : (s r : Scheme) → scheme_key s ≡ scheme_key r → shares_of s ≡ shares_of r → s ≡ r
same_scheme_of s r key shares = sym (scheme_back s) ∙ ap (λ (k : List ℕ). scheme_from k (shares_of s)) key ∙ ap (scheme_from (scheme_key r)) shares ∙ scheme_back r

some_is : (t u : Entries) → Some t ≡ Some u → t ≡ u
some_is t u e = cc

pub one_desc : (tree : Entries) (d e : Desc) → HasParts tree d → HasParts tree e → d ≡ e
one_desc tree d e p q =
    let r = desc_ranges d.which d.nodes d.ranks d.scheme d.size d.ranges in
    let s = desc_ranges e.which e.nodes e.ranks e.scheme e.size e.ranges in
    let dset : dset_tree d.flags d.which.id d.name d.which.run ≡ dset_tree e.flags e.which.id e.name e.which.run = some_is _ _ (sym p.dset ∙ q.dset) in
    let kind : scheme_tree d.scheme d.size ≡ scheme_tree e.scheme e.size = some_is _ _ (sym p.scheme ∙ q.scheme) in
    let shape : shape_tree d.nodes d.ranks ≡ shape_tree e.nodes e.ranks = some_is _ _ (sym p.shape ∙ q.shape) in
    let d_id = in_bounds 1 4294967295 d.which.id r.id in
    let e_id = in_bounds 1 4294967295 e.which.id s.id in
    let d_run = in_bounds 1 4294967295 d.which.run r.run in
    let e_run = in_bounds 1 4294967295 e.which.run s.run in
    let d_size = in_bounds 2 16 d.size r.members in
    let e_size = in_bounds 2 16 e.size s.members in
    let d_site = site_bounds d.nodes d.ranks r.site in
    let e_site = site_bounds e.nodes e.ranks s.site in
    let flags = same_flags_of d.flags e.flags (same_value (flags_key d.flags) (flags_key e.flags) (Some (leaf (flags_key d.flags))) refl (ap (λ (t : Entries). entry_under t 0 (codes "FLAGS")) dset)) in
    let id = same_number d.which.id e.which.id (Some (leaf (decimal d.which.id))) (omega arith) (omega arith) refl (ap (λ (t : Entries). entry_under t 1 (codes "ID")) dset) in
    let name = same_value d.name e.name (Some (leaf d.name)) refl (ap (λ (t : Entries). entry_under t 2 (codes "NAME")) dset) in
    let run = same_number d.which.run e.which.run (Some (leaf (decimal d.which.run))) (omega arith) (omega arith) refl (ap (λ (t : Entries). entry_under t 3 (codes "RUN")) dset) in
    let shares = same_number (shares_of d.scheme) (shares_of e.scheme) (Some (leaf (decimal (shares_of d.scheme)))) (small_shares d.scheme r.kind) (small_shares e.scheme s.kind) refl (ap (λ (t : Entries). entry_under t 0 (codes "SHARES")) kind) in
    let size = same_number d.size e.size (Some (leaf (decimal d.size))) (omega arith) (omega arith) refl (ap (λ (t : Entries). entry_under t 1 (codes "SIZE")) kind) in
    let key = same_value (scheme_key d.scheme) (scheme_key e.scheme) (Some (leaf (scheme_key d.scheme))) refl (ap (λ (t : Entries). entry_under t 2 (codes "TYPE")) kind) in
    let scheme = same_scheme_of d.scheme e.scheme key shares in
    let nodes = same_number d.nodes e.nodes (Some (leaf (decimal d.nodes))) (omega (arith, d_site.few_nodes)) (omega (arith, e_site.few_nodes)) refl (ap (λ (t : Entries). entry_under t 0 (codes "NODES")) shape) in
    let ranks = same_number d.ranks e.ranks (Some (leaf (decimal d.ranks))) (omega (arith, d_site.few_ranks)) (omega (arith, e_site.few_ranks)) refl (ap (λ (t : Entries). entry_under t 1 (codes "RANKS")) shape) in
    λ i. record {
      which = record { id = id i; run = run i };
      name = name i;
      flags = flags i;
      nodes = nodes i;
      ranks = ranks i;
      scheme = scheme i;
      size = size i;
      ranges = is_prop→PathP (λ j. IsTrue (is_desc (record { id = id j; run = run j }) (nodes j) (ranks j) (scheme j) (size j))) (λ j. hlevel props) d.ranges e.ranges i;
    }
