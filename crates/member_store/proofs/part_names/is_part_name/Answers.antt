use Rattle.std.proofs.Common.{Some, None, ◌++◌, List, ℕ, sym, ap, ◌∙◌}
use Rattle.std.proofs.lemmas.Bool.Decides.{Decides-eqb}
use Rattle.std.proofs.lemmas.Slice.Eq.{strip_prefix_is}
use Rattle.member_store.proofs.PartNames.{named, mark_of, unnamed}
use Rattle.member_store.proofs.part_names.is_part_name.Goals as goal

pub returns-in-None : goal.returns-in-None
returns-in-None c =
    let stem = c.bytes.ensures ∙ c.dotted_stem-stem.ensures in
    let none = strip_prefix_is Decides-eqb c.args.name.now c.bytes.result.now None c.in-None.ensures.cases in (
      λ t. absurd (cc t),
      λ part. absurd (unnamed c.args.which c.args.node c.args.name.now (λ rest is. none rest (is ∙ sym (ap (λ (l : List ℕ). l ++ rest) stem))) part),
    )

pub returns-in-Some : goal.returns-in-Some
returns-in-Some c =
    let stem = c.bytes.ensures ∙ c.dotted_stem-stem.ensures in
    let is = strip_prefix_is Decides-eqb c.args.name.now c.bytes.result.now (Some c.in-Some.mark) c.in-Some.ensures.cases ∙ ap (λ (l : List ℕ). l ++ c.in-Some.mark.now) stem in (
      λ t. named c.args.which c.args.node c.args.name.now c.in-Some.mark.now is (c.is_mark.ensures.0 t),
      λ part. c.is_mark.ensures.1 (mark_of c.args.which c.args.node c.args.name.now c.in-Some.mark.now is part),
    )
