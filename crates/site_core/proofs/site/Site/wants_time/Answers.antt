use Rattle.std.proofs.Common.{sym, ap, ◌∙◌, Option}
use Rattle.std.specs.Prelude.{is_none}
use Rattle.scr_base.specs.declared.answers.Refusal.{Refusal}
use Rattle.site_state.proofs.Asked.{one_missing}
use Rattle.site_state.proofs.Called.{all_called}
use Rattle.site_state.proofs.Times.{incomplete, asks_now, none_by}
use Rattle.site_core.proofs.site.Site.wants_time.Goals as goal

pub judge-requires : goal.judge-requires
judge-requires g c = all_called c.args.self.now.core.ranks (sym c.in-None.ensures)

pub returns-in_default-missing : goal.returns-in_default-missing
returns-in_default-missing g c = sym (incomplete c.args.self.now.core (one_missing c.args.self.now.core.ranks c.in_default-missing.field-0 (sym c.missing.ensures ∙ c.in_default-missing.is)))

pub returns : goal.returns
returns g c =
    let core = c.args.self.now.core in
    none_by c.is_none.result c.judge.result c.is_none.ensures ∙ ap (λ (r : Option Refusal). is_none r) c.judge.ensures
    ∙ asks_now core c.in-Some.call.now c.in-Serving.is (all_called core.ranks (sym c.in-None.ensures)) c.in-None-reading.is (sym c.in-Some.ensures) (sym c.if-not-asks_time.ensures)
