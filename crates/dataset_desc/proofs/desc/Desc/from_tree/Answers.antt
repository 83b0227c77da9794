use Rattle.std.proofs.Common.{rules, ◌≡◌, IsTrue, Some, codes, Ok, Err}
use Rattle.std.specs.Prelude.{IsErrOf}
use Rattle.scr_base.specs.declared.words.NameError.{NameError}
use Rattle.scr_base.specs.declared.words.NameError.TheVariants.{BadName, Memory}
use Rattle.dataset_desc.specs.declared.desc.DescError.{DescError}
use Rattle.dataset_desc.specs.declared.desc.DescError.TheVariants as desc
use Rattle.scr_base.specs.Words.{is_name}
use Rattle.kvtree.specs.Lookup.{get}
use Rattle.dataset_desc.specs.Parts.{dset_tree}
use Rattle.dataset_desc.proofs.OneDesc.{one_desc}
use Rattle.dataset_desc.proofs.InRange.{desc_ranges, not_false}
use Rattle.dataset_desc.proofs.Described.{IsRead, described}
use Rattle.dataset_desc.proofs.desc.Desc.from_tree.Goals as goal

pub returns-in_default-clause-foreign : goal.returns-in_default-clause-foreign
returns-in_default-clause-foreign c = (
  λ _ desc parts.
      let r = desc_ranges desc.which desc.nodes desc.ranks desc.scheme desc.size desc.ranges in
      c.in_default.ensures desc.flags desc.which.id desc.name desc.which.run r.id r.run parts.dset,
  λ _. search rules,
)

pub returns-in_default-scheme_of-clause-foreign : goal.returns-in_default-scheme_of-clause-foreign
returns-in_default-scheme_of-clause-foreign c = (
  λ _ desc parts.
      let r = desc_ranges desc.which desc.nodes desc.ranks desc.scheme desc.size desc.ranges in
      c.in_default-scheme_of.ensures desc.scheme desc.size r.kind r.members parts.scheme,
  λ _. search rules,
)

is_ok : {T E : Type 0} (x : T) (e : E) → IsErrOf (Ok x) e → ⊥
is_ok x e is = cc

is_memory : {T : Type 0} (e : NameError) → e ≡ Memory → IsErrOf {T = T} (Err e) BadName → ⊥
is_memory e memory is = cc

wants_memory : {T : Type 0} → IsErrOf {T = T} {E = DescError} (Err desc.Memory) desc.Foreign → ⊥
wants_memory is = cc

-- the parts were in their ranges
read_in : (c : goal.After-result-1) → IsRead c.args.tree.now c.in-Some.dset.flags c.in-Some.dset.id c.in-Some.dset.name.now c.in-Some.dset.run c.in-Some-scheme_of.scheme c.in-Some-scheme_of.size c.in-Some-shape_of.nodes c.in-Some-shape_of.ranks
read_in c = record {
  dset = c.in-Some.ensures.2;
  kind = c.in-Some-scheme_of.ensures.2;
  shape = c.in-Some-shape_of.ensures.1;
  named = not_false (is_name c.in-Some.dset.name.now) (λ bad. is_ok _ _ (c.in-Ok.ensures.bad.1 bad));
  ranges = record { id = c.in-Some.ensures.0; run = c.in-Some.ensures.1; site = c.in-Some-shape_of.ensures.0; kind = c.in-Some-scheme_of.ensures.0; members = c.in-Some-scheme_of.ensures.1 };
}

pub returns-in-Ok-clause-foreign : goal.returns-in-Ok-clause-foreign
returns-in-Ok-clause-foreign c = (
  λ e. absurd (is_ok _ _ e),
  λ none. let one = described c.args.tree.now _ _ _ _ _ _ _ _ (read_in c) in absurd (none one.0 one.1),
)

-- and are those of one description alone
pub returns-in-Ok-clause-only : goal.returns-in-Ok-clause-only
returns-in-Ok-clause-only c = λ desc parts.
    let r = read_in c in
    let dset : get c.args.tree.now (codes "DSET") ≡ Some (dset_tree c.in-Some.dset.flags c.in-Some.dset.id c.in-Ok.name c.in-Some.dset.run) = rw c.in-Ok.ensures.ok r.dset in
    let named : IsTrue (is_name c.in-Ok.name) = rw c.in-Ok.ensures.ok r.named in
    one_desc c.args.tree.now _ desc (record { dset = dset; scheme = r.kind; shape = r.shape; named = named }) parts

read_without : (c : goal.In-Err-Memory) → IsRead c.args.tree.now c.in-Some.dset.flags c.in-Some.dset.id c.in-Some.dset.name.now c.in-Some.dset.run c.in-Some-scheme_of.scheme c.in-Some-scheme_of.size c.in-Some-shape_of.nodes c.in-Some-shape_of.ranks
read_without c = record {
  dset = c.in-Some.ensures.2;
  kind = c.in-Some-scheme_of.ensures.2;
  shape = c.in-Some-shape_of.ensures.1;
  named = not_false (is_name c.in-Some.dset.name.now) (λ bad. is_memory _ c.in-Err-Memory.field-0-is (c.in-Err-Memory.ensures.bad.1 bad));
  ranges = record { id = c.in-Some.ensures.0; run = c.in-Some.ensures.1; site = c.in-Some-shape_of.ensures.0; kind = c.in-Some-scheme_of.ensures.0; members = c.in-Some-scheme_of.ensures.1 };
}

pub returns-in-Err-Memory-clause-foreign : goal.returns-in-Err-Memory-clause-foreign
returns-in-Err-Memory-clause-foreign c = (
  λ e. absurd (wants_memory e),
  λ none. let one = described c.args.tree.now _ _ _ _ _ _ _ _ (read_without c) in absurd (none one.0 one.1),
)
