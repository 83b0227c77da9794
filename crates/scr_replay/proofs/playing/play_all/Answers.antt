use Rattle.std.proofs.Common.{◌∙◌, List, [], ◌∷◌, take, refl, sym, subst}
use Rattle.ckpt_model.specs.Legal.{Item as LegalItem}
use Rattle.node_device.specs.Rack.{states_of}
use Rattle.scr_replay.specs.Items.{setup_of, legal_item, legal_items}
use Rattle.scr_replay.specs.Runs.{IsReplayed}
use Rattle.scr_replay.proofs.Cuts.{run_cuts}
use Rattle.scr_replay.proofs.Forms.{built_item, built_single, more_items}
use Rattle.scr_replay.proofs.Replayed.{none_replayed, replayed_then}
use Rattle.scr_replay.proofs.playing.play_all.Goals as goal

pub loop-item-init : goal.loop-item-init
loop-item-init g c =
    let states = states_of g.D.Device.state c.args.bay in
    record { replayed = none_replayed _ states _ _; quiet = refl }

pub play_item-requires-clause-single : goal.play_item-requires-clause-single
play_item-requires-clause-single g c = built_single c.args.script.now c.requires

pub play_item-requires-clause-item : goal.play_item-requires-clause-item
play_item-requires-clause-item g c =
    built_item c.args.script.now c.list-item-items.result.now c.loop-item.item-index c.item-item.result c.list-item-items.ensures c.requires c.loop-item-test.true c.item-item.is

pub loop-item-preserved : goal.loop-item-preserved
loop-item-preserved g c =
    let state = g.D.Device.state in
    let held = g.K.Sink.held in
    let reading = g.C.Clock.reading in
    let script = c.args.script.now in
    let before = legal_items (take c.loop-item.item-index script.items) in
    record {
      replayed =
          subst (λ (items : List LegalItem). IsReplayed (setup_of script) items (states_of state c.args.bay) (states_of state c.in-Ok.after) (held c.args.sink.now) (held c.play_item.new.sink) (reading c.args.clock.now) (reading c.play_item.new.clock))
          (sym (more_items c.list-item-items.result.now script.items c.loop-item.item-index c.item-item.result c.list-item-items.ensures c.loop-item-test.true c.item-item.is))
          (replayed_then (setup_of script) before (legal_item c.item-item.result ∷ []) (states_of state c.args.bay) (states_of state c.loop-item.bay) (states_of state c.in-Ok.after)
          (held c.args.sink.now) (held c.loop-item.sink) (held c.play_item.new.sink) (reading c.args.clock.now) (reading c.loop-item.clock) (reading c.play_item.new.clock) c.loop-item.invariant.replayed c.in-Ok.ensures.replayed);
      quiet = c.in-Ok.ensures.quiet ∙ c.loop-item.invariant.quiet;
    }

pub returns-in-Err-clause-cut : goal.returns-in-Err-clause-cut
returns-in-Err-clause-cut g c high =
    let state = g.D.Device.state in
    let script = c.args.script.now in
    run_cuts (setup_of script) script.items c.loop-item.item-index c.item-item.result (states_of state c.args.bay) (states_of state c.loop-item.bay) (states_of state c.in-Err.ran.bay) _ _ _ _ _ _ _ _
    (more_items c.list-item-items.result.now script.items c.loop-item.item-index c.item-item.result c.list-item-items.ensures c.loop-item-test.true c.item-item.is)
    c.loop-item.invariant.replayed c.in-Err.ensures.ends high
