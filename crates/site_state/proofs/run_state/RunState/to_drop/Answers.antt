use Rattle.std.proofs.Common.{sym, ◌∙◌, ap, Some, refl}
use Rattle.scr_base.specs.declared.content.Step.{Step}
use Rattle.site_state.specs.Choosing.{verdict_of}
use Rattle.site_state.proofs.Called.{all_called}
use Rattle.site_state.proofs.Asked.{one_missing, asks_no_drop, asks_drop}
use Rattle.site_state.proofs.run_state.RunState.to_drop.Goals as goal

pub verdict-requires : goal.verdict-requires
verdict-requires c = all_called c.args.self.now.ranks (sym c.in-None.ensures)

pub returns-in_default-missing-clause-exact : goal.returns-in_default-missing-clause-exact
returns-in_default-missing-clause-exact c = asks_no_drop c.args.self.now (one_missing c.args.self.now.ranks c.in_default-missing.field-0 (sym c.missing.ensures ∙ c.in_default-missing.is))

pub returns-in-None-verdict-clause-round : goal.returns-in-None-verdict-clause-round
returns-in-None-verdict-clause-round c = record {
  set = c.in-Some.m;
  opened = c.in-Some.is;
  which_is = refl;
  complete = all_called c.args.self.now.ranks (sym c.in-None.ensures);
  valid = c.in-Complete.valid;
  first = sym c.in-Some-call.ensures ∙ ap (λ (x : Step). Some x) c.in-Complete.is;
  clear = ap (λ (x : Step). verdict_of c.args.self.now x) (sym c.in-Complete.is) ∙ sym c.in_ok-verdict.ensures.verdict ∙ c.in-None-verdict.is;
  some = sym c.if-is_valid.ensures;
}

pub returns-in-None-verdict-clause-exact : goal.returns-in-None-verdict-clause-exact
returns-in-None-verdict-clause-exact c = asks_drop c.args.self.now c.in-Some.m.desc.which (returns-in-None-verdict-clause-round c)
