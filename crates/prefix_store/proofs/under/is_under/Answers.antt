use Rattle.std.proofs.Common.{Some, None}
use Rattle.std.proofs.lemmas.Bool.Decides.{Decides-eqb}
use Rattle.std.proofs.lemmas.Slice.Eq.{strip_prefix_is}
use Rattle.prefix_store.proofs.Names.{behind_slash, slash_behind, not_under}
use Rattle.prefix_store.proofs.under.is_under.Goals as goal

pub returns-in-None : goal.returns-in-None
returns-in-None c =
    let none = strip_prefix_is Decides-eqb c.args.name.now c.args.folder.now None c.in-None.ensures.cases in
    (λ t. absurd (cc t), λ under. absurd (not_under c.args.folder.now c.args.name.now none under))

pub returns-in-Some : goal.returns-in-Some
returns-in-Some c =
    let is = strip_prefix_is Decides-eqb c.args.name.now c.args.folder.now (Some c.in-Some.rest) c.in-Some.ensures.cases in (
      λ t. behind_slash c.args.folder.now c.args.name.now c.in-Some.rest.now is (c.begins_with_slash.ensures.0 t),
      λ under. c.begins_with_slash.ensures.1 (slash_behind c.args.folder.now c.args.name.now c.in-Some.rest.now is under),
    )
