-- A node's record of the dataset that is being saved changes: what holds of all files then.
use Rattle.std.proofs.Common.{◌≡◌, ◌≢◌, ◌⊎◌, inl, inr, ℕ, zero, suc, ◌<◌, ◌^◌, Bool, true, false, List, [], ◌∷◌, length, take, drop, Option, Some, None, refl, sym, ap, ◌∙◌, subst, slice_get, set, arith, codes}
use Rattle.std.specs.Prelude.{IsTrue, slice_index, ◌==◌}
use Rattle.std.proofs.lemmas.Bool.{cases_eq}
use Rattle.std.proofs.lemmas.Bool.Decides.{nat_tests}
use Rattle.std.proofs.Math.Path.{fun_ext}
use Rattle.std.proofs.lemmas.Option.{slice_get_within}
use Rattle.std.proofs.lemmas.List.{get_or-set_same, get_or-set_other, length-set}
use Rattle.std.proofs.lemmas.List.FromFn.{length-range_with_len}
use Rattle.scr_base.specs.declared.shape.DataId.{DataId}
use Rattle.node_device.specs.File.{bytes_of, byte_at, IsAtRest}
use Rattle.node_device.specs.DeviceState.{DeviceState}
use Rattle.node_device.specs.Rack.{OnlyAt}
use Rattle.gated_record.specs.Record.{HasBody, AreShut, is_open, open_gate_byte}
use Rattle.filemap.specs.Maps.{rows_of}
use Rattle.member_store.specs.Names.{record_name, part_name, IsPlace}
use Rattle.member_store.specs.declared.part.Part.TheVariants.{File}
use Rattle.site_state.specs.declared.cache.Cached.{Cached}
use Rattle.site_state.specs.declared.cache.Manifest.{Manifest}
use Rattle.site_state.specs.declared.run_state.RunState.{RunState}
use Rattle.site_state.specs.Choosing.{is_being_sealed}
use Rattle.site_calls.specs.Calls.{Synced}
use Rattle.site_core.specs.Stored.{Cells, cells_of, contents_of, is_named, place_of_rank, file_name, FileStands, RecordIs, IsKnown, IsWell, FilesHold, ChangesFile}
use Rattle.site_core.proofs.Halts.{halt_same, unindexed_same}
use Rattle.site_core.proofs.Names.{records-same, part_no_record}
use Rattle.site_core.proofs.Frames.{IsNamed, named, is_place, data-same, file_no_record}
use Rattle.site_core.proofs.Puts.{row_named, row_rank, few_rows}
use Rattle.site_state.proofs.Shapes.{few_nodes}

-- ## Gates

drop-set : (n k : ℕ) (b : List ℕ) (x : ℕ) → k < n → drop n (set b k x) ≡ drop n b
drop-set zero k b x lt = absurd (omega arith)
drop-set (suc n) k [] x lt = refl
drop-set (suc n) zero (y ∷ b) x lt = refl
drop-set (suc n) (suc k) (y ∷ b) x lt = drop-set n k b x (omega (arith, lt))

-- a gate is no part of the body
pub body_stays : (o : Option (List ℕ)) (k x : ℕ) (body : List ℕ) → k < 8 → HasBody o body → HasBody (Some (set (bytes_of o) k x)) body
body_stays o k x body lt has = record {
  whole = omega (arith, has.whole, length-set (bytes_of o) k x);
  len = ap (λ (b : List ℕ). Rattle.std.specs.Int.from_be_bytes Rattle.std.specs.Int.w64 (take 8 b)) (drop-set 8 k (bytes_of o) x lt) ∙ has.len;
  same = ap (λ (b : List ℕ). take (length body) b) (drop-set 16 k (bytes_of o) x (omega (arith, lt))) ∙ has.same;
}

pub opened_gate : (o : Option (List ℕ)) (k : ℕ) (body : List ℕ) → k < 8 → HasBody o body → is_open (Some (set (bytes_of o) k open_gate_byte)) k ≡ true
opened_gate o k body lt has = ap (λ (b : ℕ). b == open_gate_byte) (get_or-set_same (bytes_of o) k open_gate_byte 0 (omega (arith, lt, has.whole)))

pub other_gate : (o : Option (List ℕ)) (k j : ℕ) → j ≢ k → is_open (Some (set (bytes_of o) k open_gate_byte)) j ≡ is_open o j
other_gate o k j other = ap (λ (b : ℕ). b == open_gate_byte) (get_or-set_other (bytes_of o) k j open_gate_byte 0 other)

differs : (a b : ℕ) → a ≢ b → (a == b) ≡ false
differs a b other = grind (arith, nat_tests, other)

pub shut_gate : (o : Option (List ℕ)) (k : ℕ) → k < 8 → AreShut o → is_open o k ≡ false
shut_gate o k lt shut = differs (byte_at o k) open_gate_byte (shut k lt)

-- ## A sync

pub alike_cells : (place : ℕ) (old new : ℕ → DeviceState) → OnlyAt place Synced old new → cells_of new ≡ cells_of old
alike_cells place old new done = fun_ext (λ p. fun_ext (λ q. pick p q (cases_eq p place))) where
  pick : (p : ℕ) (q : List ℕ) → (p ≡ place) ⊎ (p ≢ place) → cells_of new p q ≡ cells_of old p q
  pick p q (inl same) = subst (λ (x : ℕ). cells_of new x q ≡ cells_of old x q) (sym same) (done.here.alike.files q).now
  pick p q (inr away) = ap (λ (d : DeviceState). (d.file q).now) (done.others p away)

pub synced_rest : (place : ℕ) (old new : ℕ → DeviceState) → OnlyAt place Synced old new → (p : ℕ) (q : List ℕ) → IsAtRest ((old p).file q) → IsAtRest ((new p).file q)
synced_rest place old new done p q rest = pick (cases_eq p place) where
  pick : (p ≡ place) ⊎ (p ≢ place) → IsAtRest ((new p).file q)
  pick (inl same) = subst (λ (x : ℕ). IsAtRest ((new x).file q)) (sym same) (done.here.at_rest q)
  pick (inr away) = subst (λ (d : DeviceState). IsAtRest (d.file q)) (sym (done.others p away)) rest

-- ## A record

pub node_small : (c : RunState) (node p : ℕ) → IsWell c → slice_get c.places node ≡ Some p → node < 2 ^ 8
node_small c node p w home = omega (arith, slice_get_within c.places node p home, ap length w.places, length-range_with_len 0 c.shape.nodes, few_nodes c.shape)

module _ (c : RunState) (m : Manifest) (node place : ℕ) (old new : Cells) (w : IsWell c) (f : FilesHold c old) (known : IsKnown c m) (home : slice_get c.places node ≡ Some place)
    (apart : (i : ℕ) (x : Cached) → slice_get c.kept i ≡ Some x → is_being_sealed x.mark ≡ false → x.manifest.desc.which ≢ m.desc.which)
    (low : place < 32) (change : ChangesFile place (record_name m.desc.which node) old new) where
  here : IsPlace m.desc.which node
  here = is_place m.desc node (node_small c node place w home)

  -- every file is as before
  pub files_same : (p : ℕ) (which : DataId) (rank j : ℕ) → IsNamed which rank j → new p (file_name which c.shape.ranks rank j) ≡ old p (file_name which c.shape.ranks rank j)
  files_same p which rank j n = change.others p (file_name which c.shape.ranks rank j) (λ e. file_no_record which m.desc.which c.shape.ranks rank j node n here e)

  pub contents_same : contents_of new c ≡ contents_of old c
  contents_same = fun_ext (λ which. fun_ext (λ rank. fun_ext (λ j. pick which rank j (is_named which rank j) refl))) where
    pick : (which : DataId) (rank j : ℕ) (b : Bool) → is_named which rank j ≡ b → (Rattle.std.specs.Prelude.if◌then◌else◌ b (bytes_of (new (place_of_rank c.places c.shape.ranks rank) (file_name which c.shape.ranks rank j))) []) ≡ (Rattle.std.specs.Prelude.if◌then◌else◌ b (bytes_of (old (place_of_rank c.places c.shape.ranks rank) (file_name which c.shape.ranks rank j))) [])
    pick which rank j true e = ap bytes_of (files_same (place_of_rank c.places c.shape.ranks rank) which rank j (named which rank j e))
    pick which rank j false e = refl

  other_record : (p : ℕ) (which : DataId) (n : ℕ) → IsPlace which n → (which ≡ m.desc.which → n ≡ node → ⊥) → new p (record_name which n) ≡ old p (record_name which n)
  other_record p which n at other = change.others p (record_name which n) (λ e. let s = records-same which m.desc.which n node at here e in other (data-same which m.desc.which s.id s.run) s.node_is)

  prefix_same : new 32 ≡ old 32
  prefix_same = fun_ext (λ q. change.elsewhere 32 q (λ e. absurd (omega (arith, e, low))))

  pub record_holds : FilesHold c new
  record_holds = record {
    stored = ap (λ (g : List ℕ → Option (List ℕ)). Rattle.site_calls.specs.Numbers.run_number (Rattle.gated_record.specs.Pair.pair_value (codes "run") g)) prefix_same ∙ f.stored;
    halted = halt_same old new prefix_same ∙ f.halted;
    unindexed = unindexed_same old new prefix_same f.unindexed;
    files = λ x is rank j row at.
        let of = w.sets x is in
        let rlt = row_rank x.files rank j row at in
        let n = row_named c.shape c.run x rank j of rlt (omega (arith, few_rows c.shape c.run x rank of rlt, slice_get_within (rows_of x.files rank) j row at)) in
        subst (λ (o : Option (List ℕ)). FileStands o row) (sym (files_same (place_of_rank c.places c.shape.ranks rank) x.desc.which rank j n)) (f.files x is rank j row at);
    records = λ i x at sealed n p h.
        subst (λ (o : Option (List ℕ)). RecordIs o x.manifest n true true) (sym (other_record p x.manifest.desc.which n (is_place x.manifest.desc n (node_small c n p w h)) (λ same e. apart i x at sealed same))) (f.records i x at sealed n p h);
    others = λ p which n lw at foreign. pick p which n at (cases_eq p place) foreign (f.others p which n lw at foreign);
    future = λ p which n local j lw at sl sj future. change.others p (part_name which n (File local j)) (λ e. part_no_record which m.desc.which n node local j at here e) ∙ f.future p which n local j lw at sl sj future;
    fresh = λ x is rank j rlt sj past. files_same (place_of_rank c.places c.shape.ranks rank) x.desc.which rank j (row_named c.shape c.run x rank j (w.sets x (inl is)) rlt sj) ∙ f.fresh x is rank j rlt sj past;
  } where
    pick : (p : ℕ) (which : DataId) (n : ℕ) → IsPlace which n → (p ≡ place) ⊎ (p ≢ place) → ((x : Manifest) → IsKnown c x → x.desc.which ≡ which → slice_get c.places n ≡ Some p → ⊥) → old p (record_name which n) ≡ None → new p (record_name which n) ≡ None
    pick p which n at (inr away) foreign none = change.elsewhere p (record_name which n) away ∙ none
    pick p which n at (inl same) foreign none = other_record p which n at (λ is e. foreign m known (sym is) (ap (λ (i : ℕ). slice_get c.places i) e ∙ home ∙ ap Some (sym same))) ∙ none
