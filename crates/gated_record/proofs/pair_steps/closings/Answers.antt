use Rattle.std.proofs.Common.{ℕ, List, arith, length, take, drop, sym, ◌∙◌, ap, min}
use Rattle.std.proofs.lemmas.List.{take_at}
use Rattle.node_device.specs.File.{bytes_of}
use Rattle.gated_record.specs.PairStages.{closings, open_from}
use Rattle.gated_record.proofs.Plans.{front_told}
use Rattle.gated_record.proofs.pair_steps.closings.Goals as goal

pub returns-clause-closes : goal.returns-clause-closes
returns-clause-closes g c =
    let d = g.D.Device.state c.args.dev.now in
    let name = c.args.name.now in
    let into = c.read.new.into in
    let read_len = c.read.auto.into ∙ c.deref_mut.ensures.len in
    let n = read_len ∙ c.in_ok-front.ensures.len ∙ c.min-len.ensures ∙ ap (λ (l : ℕ). min l 8) c.in_ok-len_of.ensures.len in
    let whole = c.deref.ensures.value ∙ take_at into (drop (length into) c.in_ok-front.front.items) c.in_ok-front.front.len read_len in record {
      front = into;
      changes_are = c.in_ok-closing.ensures ∙ ap (λ (l : List ℕ). closings name (open_from 0 l)) whole;
      few = omega (arith, n);
      inside = omega (arith, n);
      told = λ tells.
          let same = c.in_ok-len_of.ensures.same in
          front_told d (g.D.Device.state c.len_of.new.dev) name into (length into) same ((g.met.D.Device.sound c.args.dev.now).lengths tells name) n
          (c.in_ok-read.ensures.bytes (ap (λ s. s.tells) same ∙ tells) ∙ ap (λ (k : ℕ). take k (bytes_of ((g.D.Device.state c.len_of.new.dev).file name).now)) (sym c.read.auto.into));
    }
