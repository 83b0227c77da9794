-- Each move of the encoder.
use Rattle.std.proofs.Common.{◌≡◌, ◌≢◌, ◌⊎◌, inl, inr, ℕ, ◌+◌, ◌<◌, ◌≤◌, Bool, true, false, List, [], ◌∷◌, length, Option, Some, None, refl, sym, ap, ◌∙◌, subst, slice_get, set, arith}
use Rattle.std.specs.Prelude.{IsTrue, slice_index, ◌==◌, nat_lt, nat_le}
use Rattle.std.proofs.lemmas.Bool.Decides.{nat_tests}
use Rattle.scr_base.specs.declared.content.Step.{Step}
use Rattle.node_device.specs.File.{File, IsAtRest, MayLeave, bytes_of}
use Rattle.node_device.specs.DeviceState.{DeviceState, IsSound}
use Rattle.node_device.specs.Rack.{OnlyAt}
use Rattle.gated_record.specs.Record.{HasShutGates, AreShut}
use Rattle.gate_outcomes.proofs.Stays.{body_shut, torn_shut}
use Rattle.member_store.specs.Names.{record_name}
use Rattle.member_store.specs.Members.{member_body}
use Rattle.ckpt_model.specs.declared.event.Event.{Event}
use Rattle.ckpt_model.specs.Machine.{Machine}
use Rattle.site_state.specs.declared.cache.Manifest.{Manifest}
use Rattle.site_state.specs.declared.run_state.RunState.{RunState}
use Rattle.site_state.specs.declared.run_state.SaveStep.TheVariants as work
use Rattle.site_calls.specs.Calls.{Synced, Recorded, Turned, Tells}
use Rattle.site_core.specs.Stored.{Cells, cells_of, RecordIs}
use Rattle.site_core.specs.Holds.{RecordAt}
use Rattle.site_core.proofs.RecordFiles.{body_stays, opened_gate, other_gate, shut_gate}
use Rattle.site_core.proofs.Saving.{save_put, save_sync, place_of_node}
use Rattle.site_core.specs.Holds.{IsSaving}
use Rattle.site_core.proofs.LeftFiles.{has_byte, turned_whole}
use Rattle.site_state.proofs.Shapes.{few_nodes}

-- ## Numbers of nodes

le-lt : (i n : ℕ) → i ≢ n → nat_le i n ≡ nat_lt i n
le-lt i n other = grind (arith, nat_tests, other)

le-lt_flipped : (i n : ℕ) → i ≢ n → nat_le n i ≡ nat_lt n i
le-lt_flipped i n other = grind (arith, nat_tests, other)

lt-self : (n : ℕ) → nat_lt n n ≡ false
lt-self n = grind (arith, nat_tests)

le-self : (n : ℕ) → nat_le n n ≡ true
le-self n = grind (arith, nat_tests)

eq-self : (n : ℕ) → (n == n) ≡ true
eq-self n = grind (arith, nat_tests)

eq-other : (i n : ℕ) → i ≢ n → (i == n) ≡ false
eq-other i n other = grind (arith, nat_tests, other)

lt-next : (i n : ℕ) → nat_lt i (n + 1) ≡ nat_le i n
lt-next i n = grind (arith, nat_tests)

lt-zero : (i : ℕ) → nat_lt i 0 ≡ false
lt-zero i = grind (arith, nat_tests)

le-last : (i n nodes : ℕ) → i < nodes → n + 1 ≡ nodes → nat_le i n ≡ true
le-last i n nodes lt last = grind (arith, nat_tests, lt, last)

next-pending : (i n : ℕ) → nat_le (n + 1) i ≡ false → (i ≡ n) ⊎ (nat_le n i ≡ false)
next-pending i n calm = pick (Rattle.std.proofs.lemmas.Bool.cases_eq i n) where
  pick : (i ≡ n) ⊎ (i ≢ n) → (i ≡ n) ⊎ (nat_le n i ≡ false)
  pick (inl same) = inl same
  pick (inr other) = inr (grind (arith, nat_tests, other, calm))

last-pending : (i n nodes : ℕ) → i < nodes → n + 1 ≡ nodes → (i ≡ n) ⊎ (nat_le n i ≡ false)
last-pending i n nodes lt last = pick (Rattle.std.proofs.lemmas.Bool.cases_eq i n) where
  pick : (i ≡ n) ⊎ (i ≢ n) → (i ≡ n) ⊎ (nat_le n i ≡ false)
  pick (inl same) = inl same
  pick (inr other) = inr (grind (arith, nat_tests, other, lt, last))

eq-pending : (i n : ℕ) → (i ≡ n) ⊎ ((i == n) ≡ false)
eq-pending i n = pick (Rattle.std.proofs.lemmas.Bool.cases_eq i n) where
  pick : (i ≡ n) ⊎ (i ≢ n) → (i ≡ n) ⊎ ((i == n) ≡ false)
  pick (inl same) = inl same
  pick (inr other) = inr (eq-other i n other)

-- ## Records

-- where there is nothing, and nothing can come back, no gate is open
pub no_file_shut : (f : File) → f.now ≡ None → IsAtRest f → HasShutGates f
no_file_shut f none rest = record { shut = pick; untouched = λ gate lt. rest.untouched gate } where
  short : f.greatest ≡ 0
  short = rest.greatest ∙ ap (λ (o : Option (List ℕ)). length (bytes_of o)) none

  no_byte : (bytes : List ℕ) (gate : ℕ) → length bytes ≤ 0 → Rattle.std.specs.Prelude.slice_index bytes gate ≡ 0
  no_byte [] gate le = refl
  no_byte (b ∷ bytes) gate le = absurd (omega (arith, le))

  pick : (o : Option (List ℕ)) → MayLeave f o → AreShut o
  pick None may gate lt = λ e. absurd (omega (arith, e))
  pick (Some bytes) may gate lt = λ e. absurd (omega (arith, e, no_byte bytes gate (omega (arith, may.no_longer, short))))

module _ (first : Machine) (c : RunState) (programs : List (List Step)) (states after : ℕ → DeviceState) (events : List Event) (n : ℕ) (m : Manifest) (place : ℕ) (home : slice_get c.places n ≡ Some place) where
  low : Rattle.site_core.specs.Stored.IsWell c → place ≤ 32
  low well = let at = place_of_node c n place well home in omega (arith, at.0, at.1, few_nodes c.shape)

  pub recorded : IsSaving first c programs states events work.Record n m → OnlyAt place (Recorded (record_name m.desc.which n) (member_body m.desc n m.files)) states after → Tells states → ((p : ℕ) → IsSound (after p))
      → IsSaving first c programs after events work.RecordSync n m
  recorded h done tells sound =
      let told = tells place (low h.well) in
      let now = (sound place).now_allowed (record_name m.desc.which n) in
      let was = subst (λ (b : Bool). RecordAt b (cells_of states place (record_name m.desc.which n)) m n false false) (lt-self n) (h.saves.records n place home) in
      let clean = h.saves.clean n place home (lt-self n) in
      let shut = (done.here.shut (no_file_shut ((states place).file (record_name m.desc.which n)) was clean)).shut ((after place).file (record_name m.desc.which n)).now now in
      let is : RecordIs (cells_of after place (record_name m.desc.which n)) m n false false = record {
        body = done.here.body_is told;
        whole_is = shut_gate (cells_of after place (record_name m.desc.which n)) 0 (omega arith) shut;
        sealed_is = shut_gate (cells_of after place (record_name m.desc.which n)) 1 (omega arith) shut;
      } in
      save_put first c programs states after events work.Record work.RecordSync n m place home h (record { here = done.here.only; others = done.others })
      (record {
        written = λ i lt other. le-lt i n other;
        whole = λ i lt other. refl;
        sealed = λ i lt other. refl;
        pending = λ i lt other calm. calm;
        fills = λ i calm. calm;
        sealing = refl;
      })
      (subst (λ (b : Bool). RecordAt b (cells_of after place (record_name m.desc.which n)) m n false false) (sym (le-self n)) is)
      (le-self n) (le-self n)
      (record {
        unsealed = λ is. body_shut ((after place).file (record_name m.desc.which n)) 1 (omega arith) (done.here.shut (no_file_shut ((states place).file (record_name m.desc.which n)) was clean));
        whole = λ late. absurd (cc late);
      })

  pub whole_turned : IsSaving first c programs states events work.Whole n m → OnlyAt place (Turned (record_name m.desc.which n) 0) states after → Tells states
      → IsSaving first c programs after events work.WholeSync n m
  whole_turned h done tells =
      let old = cells_of states place (record_name m.desc.which n) in
      let was : RecordIs old m n false false = subst (λ (b : Bool). RecordIs old m n b false) (lt-self n) (h.saves.records n place home) in
      let put : cells_of after place (record_name m.desc.which n) ≡ Some (set (bytes_of old) 0 Rattle.gated_record.specs.Record.open_gate_byte) = done.here.now (tells place (low h.well)) (omega (arith, was.body.whole)) in
      let is : RecordIs (Some (set (bytes_of old) 0 Rattle.gated_record.specs.Record.open_gate_byte)) m n true false = record {
        body = body_stays old 0 Rattle.gated_record.specs.Record.open_gate_byte (member_body m.desc n m.files) (omega arith) was.body;
        whole_is = opened_gate old 0 (member_body m.desc n m.files) (omega arith) was.body;
        sealed_is = other_gate old 0 1 (λ e. absurd (omega (arith, e))) ∙ was.sealed_is;
      } in
      save_put first c programs states after events work.Whole work.WholeSync n m place home h (record { here = done.here.only; others = done.others })
      (record {
        written = λ i lt other. refl;
        whole = λ i lt other. le-lt i n other;
        sealed = λ i lt other. refl;
        pending = λ i lt other calm. refl;
        fills = λ i calm. refl;
        sealing = refl;
      })
      (subst (λ (b : Bool). RecordIs (cells_of after place (record_name m.desc.which n)) m n b false) (sym (le-self n)) (subst (λ (o : Option (List ℕ)). RecordIs o m n true false) (sym put) is))
      refl (eq-self n)
      (record {
        unsealed = λ is. torn_shut 0 1 ((states place).file (record_name m.desc.which n)) ((after place).file (record_name m.desc.which n)) (λ e. absurd (omega (arith, e)))
            (has_byte ((states place).file (record_name m.desc.which n)) (member_body m.desc n m.files) 0 (omega arith) (h.saves.quiet n place (record_name m.desc.which n) home refl) was.body) done.here.torn (h.saves.leaves.unsealed is n place home);
        whole = λ late. absurd (cc late);
      })

  pub sealed_turned : c.opened ≡ None → IsSaving first c programs states events work.Sealed n m → OnlyAt place (Turned (record_name m.desc.which n) 1) states after → Tells states
      → IsSaving first c programs after events work.SealedSync n m
  sealed_turned closed h done tells =
      let old = cells_of states place (record_name m.desc.which n) in
      let was : RecordIs old m n true false = subst (λ (b : Bool). RecordIs old m n true b) (lt-self n) (h.saves.records n place home) in
      let put : cells_of after place (record_name m.desc.which n) ≡ Some (set (bytes_of old) 1 Rattle.gated_record.specs.Record.open_gate_byte) = done.here.now (tells place (low h.well)) (omega (arith, was.body.whole)) in
      let is : RecordIs (Some (set (bytes_of old) 1 Rattle.gated_record.specs.Record.open_gate_byte)) m n true true = record {
        body = body_stays old 1 Rattle.gated_record.specs.Record.open_gate_byte (member_body m.desc n m.files) (omega arith) was.body;
        whole_is = other_gate old 1 0 (λ e. absurd (omega (arith, e))) ∙ was.whole_is;
        sealed_is = opened_gate old 1 (member_body m.desc n m.files) (omega arith) was.body;
      } in
      save_put first c programs states after events work.Sealed work.SealedSync n m place home h (record { here = done.here.only; others = done.others })
      (record {
        written = λ i lt other. refl;
        whole = λ i lt other. refl;
        sealed = λ i lt other. le-lt i n other;
        pending = λ i lt other calm. refl;
        fills = λ i calm. refl;
        sealing = refl;
      })
      (subst (λ (b : Bool). RecordIs (cells_of after place (record_name m.desc.which n)) m n true b) (sym (le-self n)) (subst (λ (o : Option (List ℕ)). RecordIs o m n true true) (sym put) is))
      refl (eq-self n)
      (record {
        unsealed = λ is. absurd (cc (closed, is));
        whole = λ late. turned_whole ((states place).file (record_name m.desc.which n)) ((after place).file (record_name m.desc.which n)) (member_body m.desc n m.files)
            (has_byte ((states place).file (record_name m.desc.which n)) (member_body m.desc n m.files) 1 (omega arith) (h.saves.quiet n place (record_name m.desc.which n) home refl) was.body) done.here.torn (h.saves.leaves.whole refl n place home);
      })

  -- ## Syncs

  pub record_synced : n + 1 < c.shape.nodes → IsSaving first c programs states events work.RecordSync n m → OnlyAt place Synced states after → IsSaving first c programs after events work.Record (n + 1) m
  record_synced more h done = save_sync first c programs states after events work.RecordSync work.Record n (n + 1) m place home h done (record {
    written = λ i lt. lt-next i n;
    whole = λ i lt. refl;
    sealed = λ i lt. refl;
    pending = λ i lt calm. next-pending i n calm;
    fills = λ i lt calm. next-pending i n calm;
    shut = λ early. refl;
    whole_then = λ late. absurd (cc late);
    below = more;
  })

  pub records_synced : n + 1 ≡ c.shape.nodes → IsSaving first c programs states events work.RecordSync n m → OnlyAt place Synced states after → IsSaving first c programs after events work.Whole 0 m
  records_synced last h done = save_sync first c programs states after events work.RecordSync work.Whole n 0 m place home h done (record {
    written = λ i lt. sym (le-last i n c.shape.nodes lt last);
    whole = λ i lt. lt-zero i;
    sealed = λ i lt. refl;
    pending = λ i lt calm. last-pending i n c.shape.nodes lt last;
    fills = λ i lt calm. last-pending i n c.shape.nodes lt last;
    shut = λ early. refl;
    whole_then = λ late. absurd (cc late);
    below = omega (arith, last);
  })

  pub whole_synced : n + 1 < c.shape.nodes → IsSaving first c programs states events work.WholeSync n m → OnlyAt place Synced states after → IsSaving first c programs after events work.Whole (n + 1) m
  whole_synced more h done = save_sync first c programs states after events work.WholeSync work.Whole n (n + 1) m place home h done (record {
    written = λ i lt. refl;
    whole = λ i lt. lt-next i n;
    sealed = λ i lt. refl;
    pending = λ i lt calm. eq-pending i n;
    fills = λ i lt calm. inr refl;
    shut = λ early. refl;
    whole_then = λ late. absurd (cc late);
    below = more;
  })

  pub wholes_synced : n + 1 ≡ c.shape.nodes → IsSaving first c programs states events work.WholeSync n m → OnlyAt place Synced states after → IsSaving first c programs after events work.Sealed 0 m
  wholes_synced last h done = save_sync first c programs states after events work.WholeSync work.Sealed n 0 m place home h done (record {
    written = λ i lt. refl;
    whole = λ i lt. sym (le-last i n c.shape.nodes lt last);
    sealed = λ i lt. lt-zero i;
    pending = λ i lt calm. eq-pending i n;
    fills = λ i lt calm. inr refl;
    shut = λ early. refl;
    whole_then = λ late. inr (record { written = λ i lt. refl; opened = λ i lt. refl; calm = λ i lt. refl });
    below = omega (arith, last);
  })

  pub sealed_synced : n + 1 < c.shape.nodes → IsSaving first c programs states events work.SealedSync n m → OnlyAt place Synced states after → IsSaving first c programs after events work.Sealed (n + 1) m
  sealed_synced more h done = save_sync first c programs states after events work.SealedSync work.Sealed n (n + 1) m place home h done (record {
    written = λ i lt. refl;
    whole = λ i lt. refl;
    sealed = λ i lt. lt-next i n;
    pending = λ i lt calm. eq-pending i n;
    fills = λ i lt calm. inr refl;
    shut = λ early. absurd (cc early);
    whole_then = λ late. inl refl;
    below = more;
  })
