-- What a refused call, and one step of a removal, does to one device.
use Rattle.std.proofs.Common.{inl, inr, ◌≡◌, ◌≤◌, ℕ, Bool, true, false, List, length, Option, Some, None, Ok, Err, refl, sym, ap, ◌∙◌, subst, arith}
use Rattle.scr_base.specs.declared.change.Change.{Change}
use Rattle.scr_base.specs.declared.shape.DataId.{DataId}
use Rattle.node_device.specs.File.{File, IsAtRest, IsKept, IsPartlySynced, MayLeave, bytes_of}
use Rattle.node_device.specs.DeviceState.{DeviceState, IsSound, IsUnchanged, ChangesOnly, ReadsAlike}
use Rattle.node_device.specs.Calls.{Syncs}
use Rattle.node_device.specs.declared.device.DevError.{DevError}
use Rattle.node_device.specs.declared.device.DevError.TheVariants as device
use Rattle.node_device.specs.Outcomes.{rest_leaves}
use Rattle.member_store.specs.Calls.{Drops, RemovesAtMost}
use Rattle.gated_record.specs.Calls.{WritesBody, TurnsGate}
use Rattle.site_calls.specs.Calls.{Refused, Unrecorded, Unturned, KeptAlike, FileDropped}
use Rattle.site_calls.specs.Removals.{Leaving}
use Rattle.site_calls.specs.Writes.{IsNoWrite}
use Rattle.site_calls.proofs.CallCauses.{RefusedFor}

-- a write that was refused
pub write_refused : (name : List ℕ) (old new : DeviceState) → ReadsAlike old new → ChangesOnly name old new → Refused name old new
write_refused name old new alike only = record {
  alike = alike;
  others = λ q other rest. subst (λ (f : File). IsAtRest f) (sym (only.others q other)) rest;
}

pub same_alike : (old new : DeviceState) → IsUnchanged old new → ReadsAlike old new
same_alike old new same = record {
  tells = ap (λ (d : DeviceState). d.tells) same;
  capacity = ap (λ (d : DeviceState). d.capacity) same;
  names = ap (λ (d : DeviceState). d.names) same;
  files = λ q. subst (λ (f : File). IsKept (old.file q) f) (sym (ap (λ (d : DeviceState). d.file q) same)) (record { len = refl; now = refl; fluid = λ e. e; greatest = omega arith });
}

pub unchanged_tells : (old new : DeviceState) → IsUnchanged old new → new.tells ≡ old.tells
unchanged_tells old new same = ap (λ (d : DeviceState). d.tells) same

-- of the same file a stop leaves no more
pub same_partly : (f g : File) → g ≡ f → IsPartlySynced f g
same_partly f g same = record { outcomes = λ o may. subst (λ (x : File). MayLeave x o) same may; touched = λ k is. ap (λ (x : File). x.touched k) (sym same) ∙ is }

-- a read that was refused
pub read_refused : (old new : DeviceState) → IsUnchanged old new → KeptAlike old new
read_refused old new same = record {
  alike = same_alike old new same;
  at_rest = λ q rest. subst (λ (f : File). IsAtRest f) (sym (ap (λ (d : DeviceState). d.file q) same)) rest;
  partly = λ q. same_partly (old.file q) (new.file q) (ap (λ (d : DeviceState). d.file q) same);
}

-- the write of a record's body that was refused
pub record_unwritten : {T : Type 0} (name body : List ℕ) (error : DevError) (old new : DeviceState) → WritesBody {T = T} name body (Err error) old new → Unrecorded name old new
record_unwritten name body error old new w = record { refused = write_refused name old new w.refused w.only; shut = w.shut; only = w.only }

-- the opening of a gate that was refused
pub gate_unturned : {T : Type 0} (name : List ℕ) (gate byte : ℕ) (error : DevError) (old new : DeviceState) → TurnsGate {T = T} name gate byte (Err error) old new → Unturned name gate old new
gate_unturned name gate byte error old new w = record { refused = write_refused name old new w.refused w.only; torn = w.torn; only = w.only }

-- ## A sync that was refused

not_true : (b : Bool) → (b ≡ true → ⊥) → b ≡ false
not_true true never = absurd (never refl)
not_true false never = refl

stays_false : (a b : Bool) → (b ≡ true → a ≡ true) → a ≡ false → b ≡ false
stays_false a b up is = not_true b (λ e. absurd (cc (up e, is)))

-- what may be left is no longer than the greatest length
within : (f : File) (o : Option (List ℕ)) → MayLeave f o → length (bytes_of o) ≤ f.greatest
within f None may = omega arith
within f (Some bytes) may = may.no_longer

-- a file at rest stays so, on a device that is sound
pub stays_at_rest : (f g : File) → IsKept f g → IsPartlySynced f g → MayLeave g g.now → MayLeave g g.stable → IsAtRest f → IsAtRest g
stays_at_rest f g kept partly now stable rest = record {
  stable = rest_leaves f g.stable rest (partly.outcomes g.stable stable) ∙ sym kept.now;
  untouched = λ k. stays_false (f.touched k) (g.touched k) (partly.touched k) (rest.untouched k);
  not_fluid = stays_false f.fluid g.fluid kept.fluid rest.not_fluid;
  greatest = omega (arith, within g g.now now, kept.greatest, rest.greatest, ap (λ (o : Option (List ℕ)). length (bytes_of o)) kept.now);
}

pub sync_refused : {T : Type 0} (old new : DeviceState) (error : DevError) → IsSound new → Syncs {T = T} (Err error) old new → KeptAlike old new
sync_refused old new error sound w = record {
  alike = w.alike;
  at_rest = λ q rest. stays_at_rest (old.file q) (new.file q) (w.alike.files q) (w.partly q) (sound.now_allowed q) (sound.stable_allowed q) rest;
  partly = w.partly;
}

-- ## A step of a removal

pub file_dropped : (which : DataId) (node : ℕ) (over : Bool) (before after : Option (List Change)) (old new : DeviceState) → Drops which node (Ok over) before after old new → FileDropped which node over before after old new
file_dropped which node over before after old new w = record { at_most = w.at_most; none_left = w.none_left; goes = w.goes; fewer = w.fewer }

pub dropped_tells : (which : DataId) (node : ℕ) (old new : DeviceState) → RemovesAtMost which node old new → new.tells ≡ old.tells
dropped_tells which node old new (inl one) = one.1.only.tells
dropped_tells which node old new (inr same) = unchanged_tells old new same

-- no step of a removal finds the device full
pub drop_refused : (place : ℕ) (which : DataId) (node : ℕ) (before after : Option (List Change)) (old new : DeviceState) (error : DevError) → Drops which node (Err error) before after old new → RefusedFor IsNoWrite place error old new
drop_refused place which node before after old new device.Full w = absurd w.answer
drop_refused place which node before after old new _ w = tt

pub leaving-same : (a b : Leaving) → b.which ≡ a.which → b.node ≡ a.node → b.changes ≡ a.changes → b ≡ a
leaving-same a b w n c = ap (λ (x : DataId). let l : Leaving = record { which = x; node = b.node; changes = b.changes } in l) w
    ∙ ap (λ (x : ℕ). let l : Leaving = record { which = a.which; node = x; changes = b.changes } in l) n
    ∙ ap (λ (x : Option (List Change)). let l : Leaving = record { which = a.which; node = a.node; changes = x } in l) c
