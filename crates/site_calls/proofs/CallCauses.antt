-- Why a site refuses after one call on a device of its bay.
use Rattle.std.proofs.Common.{◌≡◌, ◌≢◌, ◌<◌, ◌+◌, ℕ, Bool, true, List, length, Option, Some, None, IsSomeAnd, option_map, Ok, Err, unwrap_or, refl, sym, ap, ◌∙◌, subst, inl, inr, arith}
use Rattle.std.specs.List.{sum_by}
use Rattle.scr_base.specs.declared.shape.DataId.{DataId}
use Rattle.std.proofs.lemmas.Bool.{cases_eq}
use Rattle.node_device.specs.File.{File, bytes_of}
use Rattle.gated_record.specs.Record.{HasPlace}
use Rattle.node_device.specs.DeviceState.{DeviceState, IsSound, IsUnchanged, ReadsAlike, used_of}
use Rattle.node_device.specs.Answers.{HasDeviceCause, SyncAnswers}
use Rattle.node_device.specs.declared.device.DevError.{DevError}
use Rattle.node_device.specs.declared.device.DevError.TheVariants as device
use Rattle.dataset_desc.specs.declared.desc.Desc.{Desc}
use Rattle.filemap.specs.declared.rows.FileRow.{FileRow}
use Rattle.member_store.specs.Names.{record_name, part_name}
use Rattle.member_store.specs.Members.{member_body}
use Rattle.member_store.specs.Calls.{WritesPart, WritesMember, SetsGate, gate_number}
use Rattle.member_store.specs.declared.part.Part.{Part}
use Rattle.member_store.specs.declared.gates.MemberGate.{MemberGate}
use Rattle.site_calls.specs.Calls.{Recorded, Turned}
use Rattle.site_calls.specs.Causes.{CallCause, IsCalm, IsFull, PassesAt, trouble_of, is_device_fault}
use Rattle.site_calls.specs.Writes.{IsWrite, IsNoWrite}
use Rattle.site_calls.specs.declared.trouble.Trouble.{Trouble}
use Rattle.site_calls.specs.declared.trouble.Trouble.TheVariants as error

-- a call left the lengths and the capacity as they were
pub record KeepsUse (old new : DeviceState) : Type 0 where
  pub used : used_of new ≡ used_of old
  pub capacity : new.capacity ≡ old.capacity

pub unchanged_use : (old new : DeviceState) → IsUnchanged old new → KeepsUse old new
unchanged_use old new same = record { used = ap (λ (d : DeviceState). used_of d) same; capacity = ap (λ (d : DeviceState). d.capacity) same }

pub alike_use : (old new : DeviceState) → ReadsAlike old new → KeepsUse old new
alike_use old new alike =
    let lens : (λ name. unwrap_or (new.file name).len 0) ≡ (λ name. unwrap_or (old.file name).len 0) = λ i name. ap (λ len. unwrap_or len 0) (alike.files name).len i in
    record {
      used = ap (λ names. sum_by (λ name. unwrap_or (new.file name).len 0) names) alike.names ∙ ap (λ (f : List ℕ → ℕ). sum_by f old.names) lens;
      capacity = alike.capacity;
    }

-- a call that a full device refused
pub record IsRefusedFull (may : ℕ → List ℕ → ℕ → ℕ → Type 0) (place : ℕ) (old new : DeviceState) : Type 0 where
  pub passes : PassesAt may place old
  pub kept : KeepsUse old new

-- why a call was refused, of one device
abbrev pub RefusedFor : (ℕ → List ℕ → ℕ → ℕ → Type 0) → ℕ → DevError → DeviceState → DeviceState → Type 0
RefusedFor may place device.Full old new = IsRefusedFull may place old new
RefusedFor may place _ old new = Unit {0}

module _ (place : ℕ) (old new : ℕ → DeviceState) (others : (q : ℕ) → q ≢ place → new q ≡ old q) where
  -- where the device's count stayed, each one did
  pub calm_at : (new place).faults ≡ (old place).faults → IsCalm old new
  calm_at here q = elim (cases_eq q place) [
    | inl is ↦ subst (λ (p : ℕ). (new p).faults ≡ (old p).faults) (sym is) here
    | inr ne ↦ ap (λ (d : DeviceState). d.faults) (others q ne)
  ]

  -- the site refuses as the device did
  pub refused : (T U : Type 0) (may : ℕ → List ℕ → ℕ → ℕ → Type 0) (error : DevError) → HasDeviceCause {T = T} (old place) (new place) (Err error) → RefusedFor may place error (old place) (new place) → CallCause {T = U} may old new (Err (trouble_of place (new place) error))
  refused T U may device.Failed cause why = record { now = refl; rose = cause; others = λ q ne. ap (λ (d : DeviceState). d.faults) (others q ne) }
  refused T U may device.Full cause why = record { used_is = why.kept.used; capacity_is = why.kept.capacity; passes = why.passes; calm = calm_at cause }
  refused T U may device.NoFile cause why = calm_at cause
  refused T U may device.Range cause why = calm_at cause
  refused T U may device.Memory cause why = calm_at cause

-- the writes that may be made are among others
pub full_by : (may more : ℕ → List ℕ → ℕ → ℕ → Type 0) → ((p : ℕ) (n : List ℕ) (a k : ℕ) → may p n a k → more p n a k) → (old new : ℕ → DeviceState) (node used capacity : ℕ) → IsFull may old new node used capacity → IsFull more old new node used capacity
full_by may more by old new node used capacity f = record {
  used_is = f.used_is;
  capacity_is = f.capacity_is;
  passes = record { name = f.passes.name; at = f.passes.at; count = f.passes.count; own = by node f.passes.name f.passes.at f.passes.count f.passes.own; passes = f.passes.passes };
  calm = f.calm;
}

pub cause_by : (T : Type 0) (may more : ℕ → List ℕ → ℕ → ℕ → Type 0) → ((p : ℕ) (n : List ℕ) (a k : ℕ) → may p n a k → more p n a k) → (old new : ℕ → DeviceState) (t : Trouble) → CallCause {T = T} may old new (Err t) → CallCause {T = T} more old new (Err t)
cause_by T may more by old new error.Memory why = why
cause_by T may more by old new (error.Fault node count) why = why
cause_by T may more by old new (error.Full node used capacity) why = full_by may more by old new node used capacity why

pub no_write : (T : Type 0) (more : ℕ → List ℕ → ℕ → ℕ → Type 0) (old new : ℕ → DeviceState) (t : Trouble) → CallCause {T = T} IsNoWrite old new (Err t) → CallCause {T = T} more old new (Err t)
no_write T more old new t why = cause_by T IsNoWrite more (λ p n a k never. absurd never) old new t why

-- ## Each call that writes

pub part_refused : {T : Type 0} (place : ℕ) (which : DataId) (node : ℕ) (part : Part) (at : ℕ) (bytes : List ℕ) (old new : DeviceState) (error : DevError) → WritesPart {T = T} which node part at bytes (Err error) old new → RefusedFor (IsWrite place (part_name which node part) at (length bytes)) place error old new
part_refused place which node part at bytes old new device.Full w = record {
  passes = record { name = part_name which node part; at = at; count = length bytes; own = (refl, refl, refl, refl); passes = w.answer.1 };
  kept = alike_use old new w.refused;
}
part_refused place which node part at bytes old new _ w = tt

pub record_refused : {T : Type 0} (place node : ℕ) (desc : Desc) (files : List (List FileRow)) (old new : DeviceState) (error : DevError) → WritesMember {T = T} desc.which node desc files (Err error) old new → RefusedFor (IsWrite place (record_name desc.which node) 8 (8 + length (member_body desc node files))) place error old new
record_refused place node desc files old new device.Full w = record {
  passes = record { name = record_name desc.which node; at = 8; count = _; own = (refl, refl, refl, refl); passes = w.answer };
  kept = alike_use old new w.refused;
}
record_refused place node desc files old new _ w = tt

pub gate_refused : {T : Type 0} (place : ℕ) (which : DataId) (node : ℕ) (gate : MemberGate) (up : Bool) (old new : DeviceState) (error : DevError) → SetsGate {T = T} which node gate up (Err error) old new → RefusedFor (IsWrite place (record_name which node) (gate_number gate) 1) place error old new
gate_refused place which node gate up old new device.Full w = record {
  passes = record { name = record_name which node; at = gate_number gate; count = 1; own = (refl, refl, refl, refl); passes = w.answer.1 };
  kept = alike_use old new w.refused;
}
gate_refused place which node gate up old new _ w = tt

-- a file that reads as longer than a place has the place
pub has_place : (f : File) (o : Option (List ℕ)) (gate : ℕ) → f.now ≡ o → f.len ≡ option_map length f.now → gate < length (bytes_of o) → HasPlace f gate
has_place f None gate is len lt = absurd (omega (arith, lt))
has_place f (Some bytes) gate is len lt = subst (λ (l : Option ℕ). IsSomeAnd l (λ n. gate < n)) (sym (len ∙ ap (option_map length) is)) lt

pub turned : {T : Type 0} (which : DataId) (node : ℕ) (gate : MemberGate) (old new : DeviceState) (v : T) → IsSound old → SetsGate which node gate true (Ok v) old new → Turned (record_name which node) (gate_number gate) old new
turned which node gate old new v sound w = record {
  now = λ told lt. w.now (has_place (old.file (record_name which node)) (old.file (record_name which node)).now (gate_number gate) refl (sound.lengths told (record_name which node)) lt) told;
  torn = w.torn;
  only = w.only;
}

pub recorded : {T : Type 0} (node : ℕ) (desc : Desc) (files : List (List FileRow)) (old new : DeviceState) (v : T) → WritesMember desc.which node desc files (Ok v) old new → Recorded (record_name desc.which node) (member_body desc node files) old new
recorded node desc files old new v w = record { body_is = w.whole; shut = w.shut; only = w.only }

-- a call that a fault alone refuses
pub fault_alone : (T : Type 0) (place : ℕ) (d : DeviceState) (e : DevError) → SyncAnswers {T = T} (Err e) → is_device_fault (trouble_of place d e) ≡ true
fault_alone T place d device.Failed answers = refl
fault_alone T place d device.Full answers = absurd answers
fault_alone T place d device.NoFile answers = absurd answers
fault_alone T place d device.Range answers = absurd answers
fault_alone T place d device.Memory answers = absurd answers
