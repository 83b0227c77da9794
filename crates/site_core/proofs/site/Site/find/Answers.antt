use Rattle.std.proofs.Common.{arith, ◌∙◌, List, [], map, filter, ap, refl, sym, subst, ◌<◌}
use Rattle.ckpt_model.specs.declared.event.Event.TheVariants as event
use Rattle.ckpt_model.specs.declared.event.FoundRow.{FoundRow}
use Rattle.ckpt_model.specs.declared.event.EntryRow.{EntryRow}
use Rattle.site_state.specs.declared.cache.Cached.{Cached}
use Rattle.site_state.specs.Shown.{row_of}
use Rattle.site_state.specs.Cores.{recovered, seen_core}
use Rattle.site_core.proofs.Told.{appended}
use Rattle.site_state.proofs.AheadCores.{found_few, found_lower}
use Rattle.site_state.specs.declared.run_state.RunState.{RunState}
use Rattle.site_state.specs.Ahead.{ahead}
use Rattle.site_state.specs.Order.{IsInOrder}
use Rattle.round_core.specs.declared.seat.Seat.{Seat}
use Rattle.site_state.proofs.InOrder.{recovered_ranks}
use Rattle.site_core.proofs.site.Site.find.Goals as goal

pub returns-clause-found : goal.returns-clause-found
returns-clause-found g c = c.find.ensures ∙ ap (λ (k : List Cached). recovered (seen_core c.args.self.now.core k)) c.in_ok-kept.ensures

pub returns-clause-events : goal.returns-clause-events
returns-clause-events g c =
    let s = c.args.self.now in
    appended c.push.new.history.events s.history.events s.history.events (event.Found c.in_ok-rows.field-0 c.no_entries.result) (event.Found (map row_of (map Rattle.site_state.specs.Looks.found_member (filter Rattle.site_state.specs.Looks.is_standing c.args.members.items))) []) c.in_ok-push.ensures.events refl
    (ap (λ (r : List FoundRow). event.Found r c.no_entries.result) (c.in_ok-rows.ensures ∙ ap (map row_of) c.in_ok-kept.ensures) ∙ ap (λ (r : List EntryRow). event.Found (map row_of (map Rattle.site_state.specs.Looks.found_member (filter Rattle.site_state.specs.Looks.is_standing c.args.members.items))) r) c.no_entries.ensures)

pub returns-clause-lowers : goal.returns-clause-lowers
returns-clause-lowers g c = λ at.
    let s = c.args.self.now in
    subst (λ (x : RunState). ahead x s.programs < ahead s.core s.programs) (sym c.find.ensures) (found_lower s.core s.programs c.in_ok-kept.kept at (found_few c.in_ok-kept.kept c.args.members.items c.in_ok-kept.ensures (omega (arith, c.args.members.ok, c.args.members.small))))

pub returns-clause-order : goal.returns-clause-order
returns-clause-order g c = λ order.
    let s = c.args.self.now in
    subst (λ (rs : List Seat). IsInOrder s.programs rs) (sym (ap (λ (x : RunState). x.ranks) c.find.ensures ∙ recovered_ranks (seen_core c.args.self.now.core c.in_ok-kept.kept))) order
