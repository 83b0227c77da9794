use Rattle.std.proofs.Common.{Some, codes}
use Rattle.std.proofs.lemmas.Bool.Decides.{Decides-eqb}
use Rattle.std.proofs.lemmas.Slice.Eq.{strip_prefix_is}
use Rattle.member_store.proofs.PartNames.{share_mark, mark_share, file_mark, mark_file}
use Rattle.member_store.proofs.part_names.is_mark.Goals as goal

pub returns-in-Some : goal.returns-in-Some
returns-in-Some c =
    let is = strip_prefix_is Decides-eqb c.args.bytes.now (codes "p.") (Some c.in-Some.local) c.in-Some.ensures.cases in (
      λ t. share_mark c.args.bytes.now c.in-Some.local.now is (c.is_small.ensures.0 t),
      λ mark. c.is_small.ensures.1 (mark_share c.args.bytes.now c.in-Some.local.now is mark),
    )

pub returns-in-Some-strip_prefix : goal.returns-in-Some-strip_prefix
returns-in-Some-strip_prefix c =
    let is = strip_prefix_is Decides-eqb c.args.bytes.now (codes "f.") (Some c.in-Some-strip_prefix.numbers) c.in-Some-strip_prefix.ensures.cases in (
      λ t. file_mark c.args.bytes.now c.in-Some-strip_prefix.numbers.now is (c.are_two_small.ensures.0 t),
      λ mark. c.are_two_small.ensures.1 (mark_file c.args.bytes.now c.in-Some-strip_prefix.numbers.now is mark),
    )
