-- What a device answered, as the index tells it.
use Rattle.std.proofs.Common.{◌≡◌, ◌≤◌, inl, ℕ, List, refl, sym, ap, ◌∙◌, subst, arith}
use Rattle.std.specs.Prelude.{Result, Ok, Err}
use Rattle.node_device.specs.DeviceState.{DeviceState, IsUnchanged, ReadsAlike, ChangesOnly}
use Rattle.node_device.specs.File.{File, Torn}
use Rattle.node_device.specs.Answers.{HasDeviceCause, NamesAnswers, SyncAnswers}
use Rattle.node_device.specs.declared.device.DevError.{DevError}
use Rattle.node_device.specs.declared.device.DevError.TheVariants.{Failed, Full, NoFile, Range, Memory}
use Rattle.gated_record.specs.Record.{open_gate_byte}
use Rattle.gated_record.specs.Calls.{TurnsGate}
use Rattle.scr_base.specs.declared.shape.DataId.{DataId}
use Rattle.prefix_index.specs.Names.{entry_name}
use Rattle.prefix_index.specs.Answers.{index_fault, index_result, HasIndexCause, ReadingAnswers, IsDeviceAlone}
use Rattle.prefix_index.specs.Calls.{OpensGate}
use Rattle.prefix_index.specs.declared.error.IndexError.{IndexError}

-- the cause of a refusal that is told
pub fault_cause : (T U : Type 0) (old new : DeviceState) (fault : DevError) → HasDeviceCause {T = T} old new (Err fault) → HasIndexCause {T = U} old new (Err (index_fault new fault))
fault_cause T U old new Failed cause = record { now = refl; rose = cause }
fault_cause T U old new Full cause = cause
fault_cause T U old new NoFile cause = cause
fault_cause T U old new Range cause = cause
fault_cause T U old new Memory cause = cause

pub result_cause : {T : Type 0} (old new : DeviceState) (told : Result T DevError) → HasDeviceCause old new told → HasIndexCause old new (index_result new told)
result_cause {T} old new (Ok x) cause = cause
result_cause {T} old new (Err fault) cause = fault_cause T T old new fault cause

pub reading_fault : (T U : Type 0) (new : DeviceState) (fault : DevError) → NamesAnswers {T = T} (Err fault) → ReadingAnswers {T = U} (Err (index_fault new fault))
reading_fault T U new Failed answer = tt
reading_fault T U new Full answer = absurd answer
reading_fault T U new NoFile answer = absurd answer
reading_fault T U new Range answer = absurd answer
reading_fault T U new Memory answer = tt

alone_told : {T : Type 0} (new : DeviceState) (told : Result T DevError) → SyncAnswers told → IsDeviceAlone (index_result new told)
alone_told new (Ok x) answer = tt
alone_told new (Err Failed) answer = tt
alone_told new (Err Full) answer = absurd answer
alone_told new (Err NoFile) answer = absurd answer
alone_told new (Err Range) answer = absurd answer
alone_told new (Err Memory) answer = absurd answer

pub opens_told : {T : Type 0} (which : DataId) (gate : ℕ) (name : List ℕ) (told : Result T DevError) (result : Result T IndexError) (old new : DeviceState) → name ≡ entry_name which → TurnsGate name gate open_gate_byte told old new → result ≡ index_result new told → OpensGate which gate result old new
opens_told {T} which gate name told result old new is turns told_is =
    let own : TurnsGate (entry_name which) gate open_gate_byte told old new = subst (λ (n : List ℕ). TurnsGate n gate open_gate_byte told old new) is turns in record {
      told = told;
      is = told_is;
      turns = own;
      alone = λ there. subst (λ (r : Result T IndexError). IsDeviceAlone r) (sym told_is) (alone_told new told (own.failed_alone there));
      cause = subst (λ (r : Result T IndexError). HasIndexCause old new r) (sym told_is) (result_cause old new told own.cause);
    }

-- ## A device that is unchanged

pub unchanged_reads : (old new : DeviceState) → IsUnchanged old new → ReadsAlike old new
unchanged_reads old new same = record {
  tells = ap (λ (d : DeviceState). d.tells) same;
  capacity = ap (λ (d : DeviceState). d.capacity) same;
  names = ap (λ (d : DeviceState). d.names) same;
  files = λ q. let is : new.file q ≡ old.file q = ap (λ (d : DeviceState). d.file q) same in record {
    len = ap (λ (f : File). f.len) is;
    now = ap (λ (f : File). f.now) is;
    fluid = λ fluid. sym (ap (λ (f : File). f.fluid) is) ∙ fluid;
    greatest = same_le (new.file q).greatest (old.file q).greatest (ap (λ (f : File). f.greatest) is);
  };
}
  where
    same_le : (a b : ℕ) → a ≡ b → a ≤ b
    same_le a b e = omega (arith, e)

pub unchanged_only : (name : List ℕ) (old new : DeviceState) → IsUnchanged old new → ChangesOnly name old new
unchanged_only name old new same = record {
  tells = ap (λ (d : DeviceState). d.tells) same;
  capacity = ap (λ (d : DeviceState). d.capacity) same;
  others = λ q other. ap (λ (d : DeviceState). d.file q) same;
}

pub unchanged_file : (q : List ℕ) (old new : DeviceState) → IsUnchanged old new → new.file q ≡ old.file q
unchanged_file q old new same = ap (λ (d : DeviceState). d.file q) same

torn_self : (at n : ℕ) (f : File) → Torn at n f f
torn_self at n f = record { stable = refl; touched = λ k touched. inl touched; fluid = λ fluid. inl fluid; greatest = omega arith; there = λ there. there }

pub unchanged_torn : (at n : ℕ) (q : List ℕ) (old new : DeviceState) → IsUnchanged old new → Torn at n (old.file q) (new.file q)
unchanged_torn at n q old new same = subst (λ (f : File). Torn at n (old.file q) f) (sym (unchanged_file q old new same)) (torn_self at n (old.file q))
