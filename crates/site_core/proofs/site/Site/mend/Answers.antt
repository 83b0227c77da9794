use Rattle.std.proofs.Common.{sym, ◌∙◌, subst}
use Rattle.node_device.specs.Rack.{states_of}
use Rattle.site_state.specs.declared.run_state.RunState.{RunState}
use Rattle.site_state.specs.declared.cache.Cached.{Cached}
use Rattle.std.proofs.Common.{List, ◌<◌, ap}
use Rattle.site_state.specs.Cores.{recovered}
use Rattle.site_core.specs.Holds.{Leads}
use Rattle.site_core.proofs.Seen.{recovers, mended}
use Rattle.site_state.proofs.AheadCores.{mended_lower, over_lower}
use Rattle.site_state.specs.Ahead.{ahead}
use Rattle.site_state.proofs.Mapped.{none_any}
use Rattle.site_state.specs.Shown.{mends}
use Rattle.site_state.specs.Order.{IsInOrder}
use Rattle.round_core.specs.declared.seat.Seat.{Seat}
use Rattle.site_state.proofs.InOrder.{recovered_ranks}
use Rattle.site_core.proofs.site.Site.mend.Goals as goal

pub returns-in_default-clause-run : goal.returns-in_default-clause-run
returns-in_default-clause-run g c = λ tells first base f.
    let s = c.args.self.now in
    let states = states_of g.D.Device.state s.bay in
    subst (λ (x : RunState). Leads first x s.programs states s.history.events) (sym c.end_recovery.ensures) (recovers first s.core s.programs states s.history.events c.requires f)

pub returns-clause-run : goal.returns-clause-run
returns-clause-run g c = λ tells first base f.
    let s = c.args.self.now in
    let states = states_of g.D.Device.state s.bay in
    let events = c.push.new.history.events in
    let l = mended first s.core s.programs states s.history.events events c.in-Some.which c.requires (sym c.to_mend.ensures ∙ c.in-Some.is) c.in_ok-push.ensures.events f in
    let m = subst (λ (k : List Cached). Leads first (recovered (record s.core { kept = k })) s.programs states events) (sym c.settle.ensures) l in
    subst (λ (x : RunState). Leads first x s.programs states events) (sym c.end_recovery-2.ensures) m

pub returns-in_default-clause-lowers : goal.returns-in_default-clause-lowers
returns-in_default-clause-lowers g c =
    let s = c.args.self.now in
    subst (λ (x : RunState). ahead x s.programs < ahead s.core s.programs) (sym c.end_recovery.ensures) (over_lower s.core s.programs c.requires (none_any mends (λ (set : Cached). set.manifest.desc.which) s.core.kept (sym c.to_mend.ensures ∙ c.in_default.is)))

pub returns-clause-lowers : goal.returns-clause-lowers
returns-clause-lowers g c =
    let s = c.args.self.now in
    let m = subst (λ (k : List Cached). ahead (recovered (record s.core { kept = k })) s.programs < ahead s.core s.programs) (sym c.settle.ensures) (mended_lower s.core s.programs c.in-Some.which c.requires (sym c.to_mend.ensures ∙ c.in-Some.is)) in
    subst (λ (x : RunState). ahead x s.programs < ahead s.core s.programs) (sym c.end_recovery-2.ensures) m

pub returns-in_default-clause-order : goal.returns-in_default-clause-order
returns-in_default-clause-order g c = λ order.
    let s = c.args.self.now in
    subst (λ (rs : List Seat). IsInOrder s.programs rs) (sym (ap (λ (x : RunState). x.ranks) c.end_recovery.ensures ∙ recovered_ranks c.args.self.now.core)) order

pub returns-clause-order : goal.returns-clause-order
returns-clause-order g c = λ order.
    let s = c.args.self.now in
    subst (λ (rs : List Seat). IsInOrder s.programs rs) (sym (ap (λ (x : RunState). x.ranks) c.end_recovery-2.ensures ∙ recovered_ranks (record c.args.self.now.core { kept = c.settle.new.self }))) order
