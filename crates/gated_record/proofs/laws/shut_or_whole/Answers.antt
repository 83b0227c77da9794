use Rattle.std.proofs.Common.{ℕ, List, Option, Ok, Err, sym, subst}
use Rattle.std.specs.Prelude.{IsOk, OnOk}
use Rattle.gated_record.specs.Record.{HasBody}
use Rattle.gated_record.specs.Whole.{Answer}
use Rattle.gated_record.proofs.Records.{gate_keeps_body}
use Rattle.gated_record.proofs.laws.shut_or_whole.Goals as goal

done : {P : Type 0} (r : Answer) → IsOk r → OnOk r P → P
done (Ok x) ok p = p
done (Err e) ok p = absurd cc

pub returns : goal.returns
returns c = λ name body gate wrote synced opened before written stable after s. record {
  written_shut = (s.writes.shut s.shut).shut;
  stable_shut = λ o may. (s.writes.shut s.shut).shut o ((s.syncs.partly name).outcomes o may);
  whole = λ was_written was_synced g o may is_open.
      let now : HasBody (written.file name).now body = done wrote was_written (s.writes.whole s.tells) in
      let kept : HasBody (stable.file name).now body = subst (λ (p : Option (List ℕ)). HasBody p body) (sym (s.syncs.alike.files name).now) now in
      gate_keeps_body gate (stable.file name) (after.file name) body s.below (done synced was_synced s.syncs.at_rest name) s.opens.torn kept o may;
}
