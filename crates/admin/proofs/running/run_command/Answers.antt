use Rattle.std.proofs.Common.{None, Some, sym, ap, subst, arith}
use Rattle.std.specs.Prelude.{Option}
use Rattle.scr_base.specs.declared.content.HaltWord.{HaltWord}
use Rattle.node_device.proofs.Racks.{only_at}
use Rattle.node_device.specs.Rack.{states_of, with_device}
use Rattle.admin.specs.Commands.{word_of}
use Rattle.admin.specs.Halting.{SetsHalt}
use Rattle.admin.specs.Running.{RunsHalt}
use Rattle.admin.proofs.Stands.{runs}
use Rattle.admin.proofs.running.run_command.Goals as goal

pub returns-in-HaltSet : goal.returns-in-HaltSet
returns-in-HaltSet g c =
    let state = g.D.Device.state in
    let word : Option HaltWord = Some c.in-HaltSet.halt in record {
      halt =
          subst (λ w. RunsHalt w c.set_halt.result (states_of state c.args.bay.now) (states_of state (with_device c.args.bay.now 32 c.set_halt.new.dev))) (sym (ap word_of c.in-HaltSet.is))
          (runs word c.set_halt.result (states_of state c.args.bay.now) (states_of state (with_device c.args.bay.now 32 c.set_halt.new.dev))
          (only_at state c.args.bay.now c.device.ensures.full 32 (omega arith) (SetsHalt word c.set_halt.result) c.device.result.now c.set_halt.new.dev c.device.ensures.value c.set_halt.ensures));
    }

pub returns-in-HaltClear : goal.returns-in-HaltClear
returns-in-HaltClear g c =
    let state = g.D.Device.state in
    let word : Option HaltWord = None in record {
      halt =
          subst (λ w. RunsHalt w c.set_halt-in-HaltClear.result (states_of state c.args.bay.now) (states_of state (with_device c.args.bay.now 32 c.set_halt-in-HaltClear.new.dev))) (sym (ap word_of c.in-HaltClear.is))
          (runs word c.set_halt-in-HaltClear.result (states_of state c.args.bay.now) (states_of state (with_device c.args.bay.now 32 c.set_halt-in-HaltClear.new.dev))
          (only_at state c.args.bay.now c.device-in-HaltClear.ensures.full 32 (omega arith) (SetsHalt word c.set_halt-in-HaltClear.result) c.device-in-HaltClear.result.now c.set_halt-in-HaltClear.new.dev c.device-in-HaltClear.ensures.value c.set_halt-in-HaltClear.ensures));
    }
