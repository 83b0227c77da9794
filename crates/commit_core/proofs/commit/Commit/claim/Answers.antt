use Rattle.std.proofs.Common.{◌≡◌, ℕ, List, Some, sym, ap, subst, ◌∙◌}
use Rattle.node_device.specs.Rack.{states_of}
use Rattle.node_device.specs.DeviceState.{DeviceState}
use Rattle.site_stands.specs.Site.{SiteStands}
use Rattle.commit_core.specs.Claiming.{next_piece}
use Rattle.commit_core.specs.Committing.{Committing}
use Rattle.commit_core.specs.Holds.{CommitHolds}
use Rattle.commit_core.proofs.ClaimHolds.{asks_by, out_holds, withdrawn_holds, fault_of, fault_site}
use Rattle.commit_core.proofs.commit.Commit.claim.Goals as goal

pub returns-in_ok-claim-in-Ok-clause-asks : goal.returns-in_ok-claim-in-Ok-clause-asks
returns-in_ok-claim-in-Ok-clause-asks g c =
    let old = states_of g.D.Device.state c.args.bay.now in
    let next : next_piece c.args.self.now ≡ Some c.in-Some.piece = sym c.next_piece.ensures.next ∙ c.in-Some.is in
    asks_by c.args.self.now c.hand_out.new.self c.self.inside.set c.in_ok-claim-in-Ok.claim c.in-Some.piece c.in-Ok.inputs old (ap (λ (x : Committing). x.set) c.self.view_is) c.in_ok-claim-in-Ok.ensures.claim next c.in_ok-claim-in-Ok.ensures.inputs c.in-Ok.ensures.inputs

pub returns-in_ok-claim-in-Ok-clause-safe : goal.returns-in_ok-claim-in-Ok-clause-safe
returns-in_ok-claim-in-Ok-clause-safe g c =
    let old = states_of g.D.Device.state c.args.bay.now in
    let new = states_of g.D.Device.state c.inputs_of.new.bay in
    let same : new ≡ old = c.in-Ok.ensures.only in
    let next : next_piece c.args.self.now ≡ Some c.in-Some.piece = sym c.next_piece.ensures.next ∙ c.in-Some.is in
    let asks = asks_by c.args.self.now c.hand_out.new.self c.self.inside.set c.in_ok-claim-in-Ok.claim c.in-Some.piece c.in-Ok.inputs old (ap (λ (x : Committing). x.set) c.self.view_is) c.in_ok-claim-in-Ok.ensures.claim next c.in_ok-claim-in-Ok.ensures.inputs c.in-Ok.ensures.inputs in
    λ s m d told of stands holds. (
      subst (λ (t : ℕ → DeviceState). SiteStands s t m) (sym same) stands,
      subst (λ (t : ℕ → DeviceState). CommitHolds s t m d c.hand_out.new.self) (sym same) (out_holds s old m d c.args.self.now c.hand_out.new.self c.in_ok-claim-in-Ok.claim told of c.in_ok-claim-in-Ok.ensures.claim asks holds),
    )

pub returns-in-Err-Fault-clause-safe : goal.returns-in-Err-Fault-clause-safe
returns-in-Err-Fault-clause-safe g c =
    let old = states_of g.D.Device.state c.args.bay.now in
    let new = states_of g.D.Device.state c.inputs_of.new.bay in
    λ s m d told of stands holds. (
      fault_site s m old new c.in-Err-Fault.node c.in-Err-Fault.count (fault_of (List (List ℕ)) old new c.in-Err-Fault.field-0 c.in-Err-Fault.node c.in-Err-Fault.count c.in-Err-Fault.field-0-is c.in-Err-Fault.ensures.only) stands,
      withdrawn_holds s new m d c.args.self.now c.withdraw.new.self c.withdraw.ensures,
    )
