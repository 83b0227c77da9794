use Rattle.std.proofs.Common.{Bool, sym, ap, ◌∙◌}
use Rattle.std.specs.Prelude.{if◌then◌else◌}
use Rattle.site_state.specs.declared.cache.Cached.{Cached}
use Rattle.site_state.specs.declared.run_state.RunState.{RunState}
use Rattle.site_state.specs.declared.run_state.RunStage.TheVariants as stage
use Rattle.site_state.specs.Shown.{mends}
use Rattle.site_state.proofs.Mapped.{found_any, none_any}
use Rattle.site_state.proofs.run_state.RunState.end_recovery.Goals as goal

pub returns-in-Some : goal.returns-in-Some
returns-in-Some c =
    let old = c.args.self.now in
    ap (λ (b : Bool). let d : RunState = if b then old else record old { stage = stage.Serving } in d) (sym (found_any mends (λ (set : Cached). set.manifest.desc.which) old.kept _ (sym c.to_mend.ensures ∙ c.in-Some.is)))

pub returns-in-None : goal.returns-in-None
returns-in-None c =
    let old = c.args.self.now in
    ap (λ (b : Bool). let d : RunState = if b then old else record old { stage = stage.Serving } in d) (sym (none_any mends (λ (set : Cached). set.manifest.desc.which) old.kept (sym c.to_mend.ensures ∙ c.in-None.is)))
