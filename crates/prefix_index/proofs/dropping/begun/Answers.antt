use Rattle.std.proofs.Common.{◌<◌, ◌^◌, ℕ, List, Option, Some, sym, subst}
use Rattle.scr_base.specs.declared.change.Change.{Change}
use Rattle.scr_base.specs.Stages.{left}
use Rattle.node_device.specs.DeviceState.{DeviceState}
use Rattle.prefix_index.specs.DropParts.{FindsDrop, NoneHasId, FirstHasId, HasBegun}
use Rattle.prefix_index.specs.declared.entry.Entry.{Entry}
use Rattle.prefix_index.proofs.SoFar.{unchanged}
use Rattle.prefix_index.proofs.DropBegins.{none_of_id, first_of_id}
use Rattle.prefix_index.proofs.dropping.begun.Goals as goal

pub returns-in_default-clause-found : goal.returns-in_default-clause-found
returns-in_default-clause-found g c = λ tells.
    none_of_id (g.D.Device.state c.args.dev.now) c.in_ok-known.known.items c.args.id (c.in_ok-known.ensures.entries tells)
    (subst (λ (l : List Entry). NoneHasId l c.args.id) c.deref.ensures.value c.in_default.ensures)

pub returns-clause-found : goal.returns-clause-found
returns-clause-found g c =
    let d = g.D.Device.state c.args.dev.now in
    let e = c.in-Some.entry.now in
    let changes = c.in_ok-changes_of.field-0.items in
    subst (λ (s : Option (List Change)). FindsDrop c.args.id d (Some s)) (sym c.begin.ensures.begun) (
      record {
        entry = e;
        first = λ tells. first_of_id d c.in_ok-known.known.items c.args.id e (c.in_ok-known.ensures.entries tells) (subst (λ (l : List Entry). FirstHasId l c.args.id e) c.deref.ensures.value c.in-Some.ensures);
        has = c.in-Some.ensures.has;
        begun = subst (λ (s : DeviceState). HasBegun e.desc.which e.desc.name s changes) (unchanged d (g.D.Device.state c.entries.new.dev) c.in_ok-known.ensures.same c.in_ok-known.ensures.cause) c.in_ok-changes_of.ensures.changes;
      },
      subst (λ (s : Option (List Change)). left s < 2 ^ 64) c.begin.ensures.begun c.begin.ensures.fewer,
    )
