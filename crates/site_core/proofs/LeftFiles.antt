-- What a stop may leave of files, across the calls of the moves.
use Rattle.std.proofs.Common.{◌≡◌, ◌≢◌, ◌⊎◌, inl, inr, ℕ, ◌<◌, ◌==◌, true, false, List, Option, Some, None, refl, sym, ap, subst, slice_get, arith}
use Rattle.std.specs.Prelude.{is_some}
use Rattle.std.proofs.lemmas.Bool.{cases_eq}
use Rattle.std.proofs.lemmas.Bool.Decides.{nat_tests}
use Rattle.scr_base.specs.declared.shape.DataId.{DataId}
use Rattle.node_device.specs.File.{File, IsAtRest, IsPartlySynced, Torn, bytes_of}
use Rattle.node_device.specs.DeviceState.{DeviceState, ChangesOnly, IsSound}
use Rattle.node_device.specs.Rack.{OnlyAt}
use Rattle.gated_record.specs.Record.{HasBody, IsOpen, is_open, open_gate_byte}
use Rattle.gate_outcomes.specs.Leaves.{HasByte}
use Rattle.gate_outcomes.specs.Gates.{StaysShut, StaysWhole}
use Rattle.gate_outcomes.proofs.Stays.{synced_shut, removed_shut, rest_shut, torn_body, torn_open}
use Rattle.member_store.specs.Names.{record_name}
use Rattle.member_store.specs.Calls.{RemovesAtMost, RemovesFile}
use Rattle.site_state.specs.declared.cache.Manifest.{Manifest}
use Rattle.site_state.specs.declared.run_state.RunState.{RunState}
use Rattle.site_state.specs.declared.run_state.SaveStep.{SaveStep}
use Rattle.site_calls.specs.Calls.{Synced, KeptAlike}
use Rattle.site_core.specs.Stored.{cells_of, FilesHold}
use Rattle.site_core.specs.Left.{LeavesSaved, NoneSealed}
use Rattle.site_calls.proofs.RefusedCalls.{same_partly}
use Rattle.site_core.proofs.Losses.{is_or_not}

-- ## Files

-- a record that is at rest is longer than its gates
pub has_byte : (f : File) (body : List ℕ) (k : ℕ) → k < 8 → IsAtRest f → HasBody f.now body → HasByte f k
has_byte f body k lt rest has = record {
  there = there f.now has;
  long = omega (arith, lt, rest.greatest, has.whole);
} where
  there : (o : Option (List ℕ)) → HasBody o body → is_some o ≡ true
  there None h = absurd (omega (arith, h.whole))
  there (Some b) h = refl

-- a whole record stays so when its gate `sealed` is written, done or refused
pub turned_whole : (f g : File) (body : List ℕ) → HasByte f 1 → Torn 1 1 f g → StaysWhole f body → StaysWhole g body
turned_whole f g body there torn whole = record {
  has = torn_body 1 f g body (omega arith) there torn whole.has;
  is_open = torn_open 1 0 f g (λ e. absurd (omega (arith, e))) there torn whole.is_open;
}

-- a gate that reads as open is open
pub gate_opens : (o : Option (List ℕ)) (k : ℕ) → is_open o k ≡ true → IsOpen o k
gate_opens o k e = is_byte (Rattle.node_device.specs.File.byte_at o k) e where
  is_byte : (byte : ℕ) → (byte == open_gate_byte) ≡ true → byte ≡ open_gate_byte
  is_byte byte e = grind (arith, nat_tests, e)

-- where there is nothing, no gate reads as open
pub none_shut : (o : Option (List ℕ)) (k : ℕ) → o ≡ None → is_open o k ≡ false
none_shut o k none = ap (λ (x : Option (List ℕ)). is_open x k) none

-- ## A bay

-- after a sync, done or refused, a stop leaves no more
module _ (place : ℕ) (old new : ℕ → DeviceState) (others : (p : ℕ) → p ≢ place → new p ≡ old p) where
  partly_at : ((q : List ℕ) → IsPartlySynced ((old place).file q) ((new place).file q)) → (p : ℕ) (q : List ℕ) → IsPartlySynced ((old p).file q) ((new p).file q)
  partly_at partly p q = pick (cases_eq p place) where
    pick : (p ≡ place) ⊎ (p ≢ place) → IsPartlySynced ((old p).file q) ((new p).file q)
    pick (inl is) = subst (λ (x : ℕ). IsPartlySynced ((old x).file q) ((new x).file q)) (sym is) (partly q)
    pick (inr away) = same_partly ((old p).file q) ((new p).file q) (ap (λ (d : DeviceState). d.file q) (others p away))

pub sync_partly : (place : ℕ) (old new : ℕ → DeviceState) → OnlyAt place Synced old new → (p : ℕ) (q : List ℕ) → IsPartlySynced ((old p).file q) ((new p).file q)
sync_partly place old new done = partly_at place old new done.others done.here.partly

pub alike_partly : (place : ℕ) (old new : ℕ → DeviceState) → OnlyAt place KeptAlike old new → (p : ℕ) (q : List ℕ) → IsPartlySynced ((old p).file q) ((new p).file q)
alike_partly place old new done = partly_at place old new done.others done.here.partly

-- a file that isn't the one that was changed is the same
pub file_same : (place : ℕ) (name : List ℕ) (old new : ℕ → DeviceState) → OnlyAt place (λ a b. ChangesOnly name a b) old new → (p : ℕ) (q : List ℕ) → (p ≡ place → q ≢ name) → (new p).file q ≡ (old p).file q
file_same place name old new done p q other = pick (cases_eq p place) where
  pick : (p ≡ place) ⊎ (p ≢ place) → (new p).file q ≡ (old p).file q
  pick (inl is) = subst (λ (x : ℕ). (new x).file q ≡ (old x).file q) (sym is) (done.here.others q (other is))
  pick (inr away) = ap (λ (d : DeviceState). d.file q) (done.others p away)

-- ## Homes

pub home_or_not : (places : List ℕ) (node p : ℕ) → (slice_get places node ≡ Some p) ⊎ (slice_get places node ≡ Some p → ⊥)
home_or_not places node p = pick (slice_get places node) where
  some_same : (x y : ℕ) → Some x ≡ Some y → x ≡ y
  some_same x y e = cc

  at : (x : ℕ) → (x ≡ p) ⊎ (x ≢ p) → (Some x ≡ Some p) ⊎ (Some x ≡ Some p → ⊥)
  at x (inl is) = inl (ap Some is)
  at x (inr other) = inr (λ e. other (some_same x p e))

  pick : (o : Option ℕ) → (o ≡ Some p) ⊎ (o ≡ Some p → ⊥)
  pick None = inr (λ e. absurd (cc e))
  pick (Some x) = at x (cases_eq x p)

-- ## No record is sealed

-- while the records of the open dataset are written, none of it is left sealed
pub none_sealed : (w : SaveStep) (n : ℕ) (c : RunState) (m : Manifest) (states : ℕ → DeviceState) → c.opened ≡ Some m → FilesHold c (cells_of states) → LeavesSaved w n c.places c.opened m states → NoneSealed m.desc.which states
none_sealed w n c m states opened files leaves p node low at = pick (home_or_not c.places node p) where
  pick : (slice_get c.places node ≡ Some p) ⊎ (slice_get c.places node ≡ Some p → ⊥) → StaysShut ((states p).file (record_name m.desc.which node)) 1
  pick (inl home) = leaves.unsealed opened node p home
  pick (inr off) =
      let none = files.others p m.desc.which node low at (λ x known same home. off home) in
      rest_shut ((states p).file (record_name m.desc.which node)) 1 (leaves.elsewhere p node low at off) (none_shut (cells_of states p (record_name m.desc.which node)) 1 none)

-- a sync leaves none of it sealed
pub none_sealed_on : (which : DataId) (old new : ℕ → DeviceState) → ((p : ℕ) (q : List ℕ) → IsPartlySynced ((old p).file q) ((new p).file q)) → NoneSealed which old → NoneSealed which new
none_sealed_on which old new partly none p node low at = synced_shut ((old p).file (record_name which node)) ((new p).file (record_name which node)) 1 (partly p (record_name which node)) (none p node low at)

-- nor does a removal
pub none_sealed_gone : (which other : DataId) (member n : ℕ) (old new : ℕ → DeviceState) → ((p : ℕ) → IsSound (old p)) → OnlyAt n (RemovesAtMost other member) old new → NoneSealed which old → NoneSealed which new
none_sealed_gone which other member n old new sound done none p node low at = pick (cases_eq p n) where
  q : List ℕ
  q = record_name which node

  gone : (name : List ℕ) → RemovesFile other member name (old n) (new n) → (q ≡ name) ⊎ (q ≢ name) → StaysShut ((old n).file q) 1 → StaysShut ((new n).file q) 1
  gone name r (inl is) shut = removed_shut ((old n).file q) ((new n).file q) 1 ((sound n).stable_allowed q)
      (subst (λ (x : List ℕ). Rattle.node_device.specs.File.IsRemoved ((old n).file x) ((new n).file x)) (sym is) r.removed) shut
  gone name r (inr apart) shut = subst (λ (f : File). StaysShut f 1) (sym (r.only.others q apart)) shut

  here : RemovesAtMost other member (old n) (new n) → StaysShut ((old n).file q) 1 → StaysShut ((new n).file q) 1
  here (inl r) shut = gone r.0 r.1 (is_or_not q r.0) shut
  here (inr same) shut = subst (λ (f : File). StaysShut f 1) (sym (ap (λ (d : DeviceState). d.file q) same)) shut

  pick : (p ≡ n) ⊎ (p ≢ n) → StaysShut ((new p).file q) 1
  pick (inl is) = subst (λ (x : ℕ). StaysShut ((new x).file q) 1) (sym is) (here done.here (subst (λ (x : ℕ). StaysShut ((old x).file q) 1) is (none p node low at)))
  pick (inr away) = subst (λ (d : DeviceState). StaysShut (d.file q) 1) (sym (done.others p away)) (none p node low at)
