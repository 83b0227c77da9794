use Rattle.std.proofs.Common.{List, sym, ap, ◌∙◌, subst, Err}
use Rattle.std.specs.Prelude.{Vec}
use Rattle.std.specs.declared.alloc.Global.{Global}
use Rattle.node_device.specs.DeviceState.{DeviceState}
use Rattle.prefix_index.specs.Entries.{AreEntries}
use Rattle.prefix_index.specs.Calls.{AddsBody}
use Rattle.prefix_index.specs.declared.entry.Entry.{Entry}
use Rattle.prefix_index.specs.declared.error.IndexError.{IndexError}
use Rattle.prefix_index.proofs.SoFar.{unchanged}
use Rattle.prefix_index.proofs.Adds.{unread}
use Rattle.prefix_index.proofs.adding.add_body.Goals as goal

pub add_to-requires-clause-known : goal.add_to-requires-clause-known
add_to-requires-clause-known g c = λ tells.
    let old = g.D.Device.state c.args.dev.now in
    let new = g.D.Device.state c.entries.new.dev in
    let same = unchanged old new c.in-Ok.ensures.same c.in-Ok.ensures.cause in
    subst (λ (l : List Entry). AreEntries new l) (sym c.deref.ensures.value) (subst (λ (d : DeviceState). AreEntries d c.in-Ok.known.items) (sym same) (c.in-Ok.ensures.entries (ap (λ (d : DeviceState). d.tells) (sym same) ∙ tells)))

pub returns-in-Ok : goal.returns-in-Ok
returns-in-Ok g c =
    let old = g.D.Device.state c.args.dev.now in
    let new = g.D.Device.state c.entries.new.dev in
    subst (λ (d : DeviceState). AddsBody c.args.desc.now c.args.files.now c.add_to.result d (g.D.Device.state c.add_to.new.dev)) (unchanged old new c.in-Ok.ensures.same c.in-Ok.ensures.cause) c.add_to.ensures

pub returns-in-Err : goal.returns-in-Err
returns-in-Err g c =
    let old = g.D.Device.state c.args.dev.now in
    let new = g.D.Device.state c.entries.new.dev in
    subst (λ (r : IndexError). AddsBody c.args.desc.now c.args.files.now (Err r) old new) (sym c.of.ensures) (unread _ c.args.desc.now c.args.files.now old new (Vec Entry Global) c.in-Err.fault c.in-Err.ensures.answer c.in-Err.ensures.cause c.in-Err.ensures.same)
