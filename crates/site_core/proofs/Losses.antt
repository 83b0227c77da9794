-- Files of one member go: what stays of the others.
use Rattle.std.proofs.Common.{◌≡◌, ◌≢◌, ◌⊎◌, inl, inr, ℕ, suc, ◌/◌, ◌%◌, ◌<◌, ◌^◌, Bool, true, false, List, [], ◌∷◌, map, Option, None, Some, refl, sym, ap, ◌∙◌, subst, slice_get, arith, codes}
use Rattle.std.specs.Prelude.{if◌then◌else◌, bytes_eq}
use Rattle.std.proofs.lemmas.Bool.{cases_eq}
use Rattle.std.proofs.lemmas.Slice.Eq.{bytes_eq-Decides}
use Rattle.std.proofs.lemmas.Option.{slice_get_within}
use Rattle.std.proofs.Math.Path.{fun_ext}
use Rattle.scr_base.specs.declared.shape.DataId.{DataId}
use Rattle.node_device.specs.File.{File as OneFile, IsAtRest, bytes_of}
use Rattle.node_device.specs.DeviceState.{DeviceState}
use Rattle.node_device.specs.Rack.{OnlyAt}
use Rattle.member_store.specs.Calls.{RemovesAtMost}
use Rattle.member_store.specs.Names.{record_name, part_name, IsPlace, IsNameOf}
use Rattle.member_store.specs.declared.part.Part.TheVariants.{File}
use Rattle.ckpt_model.specs.Dataset.{Dataset}
use Rattle.ckpt_model.specs.Machine.{Setup, Kept}
use Rattle.filemap.specs.Maps.{rows_of}
use Rattle.site_state.specs.declared.cache.Cached.{Cached}
use Rattle.site_state.specs.declared.cache.Manifest.{Manifest}
use Rattle.site_state.specs.declared.run_state.RunState.{RunState}
use Rattle.site_state.specs.Shown.{all_files, kept_of}
use Rattle.site_core.specs.Stored.{Cells, cells_of, contents_in, is_named, place_of_rank, file_name, FilesStand, FileStands, RecordsStand, RecordIs, IsAmong, IsWell, NoOtherRecords, NoFutureFiles, stored_run}
use Rattle.site_core.proofs.Frames.{IsNamed, named, is_place, data-same, mod_small, place_named}
use Rattle.site_core.proofs.Names.{members-same}
use Rattle.site_core.proofs.Puts.{row_named, row_rank, few_rows, kept_other}
use Rattle.site_core.proofs.RecordFiles.{node_small}

-- two names are one, or not
pub is_or_not : (a b : List ℕ) → (a ≡ b) ⊎ (a ≢ b)
is_or_not a b = pick (bytes_eq a b) refl where
  pick : (t : Bool) → bytes_eq a b ≡ t → (a ≡ b) ⊎ (a ≢ b)
  pick true e = inl ((bytes_eq-Decides a b).0 e)
  pick false e = inr (λ same. absurd (let is = (bytes_eq-Decides a b).1 same in cc (e, is)))

-- files of one member went, and nothing else changed
pub record Loses (which : DataId) (node place : ℕ) (old new : Cells) : Type 0 where
  pub gone : (p : ℕ) (q : List ℕ) → old p q ≡ None → new p q ≡ None
  pub others : (p : ℕ) (q : List ℕ) → (IsNameOf which node q → ⊥) → new p q ≡ old p q
  pub elsewhere : (p : ℕ) (q : List ℕ) → p ≢ place → new p q ≡ old p q

-- of one device
record LosesHere (which : DataId) (node : ℕ) (old new : DeviceState) : Type 0 where
  pub gone : (q : List ℕ) → (old.file q).now ≡ None → (new.file q).now ≡ None
  pub others : (q : List ℕ) → (IsNameOf which node q → ⊥) → new.file q ≡ old.file q

loses_here : (which : DataId) (node : ℕ) (old new : DeviceState) → RemovesAtMost which node old new → LosesHere which node old new
loses_here which node old new (inr same) = record {
  gone = λ q none. ap (λ (d : DeviceState). (d.file q).now) same ∙ none;
  others = λ q other. ap (λ (d : DeviceState). d.file q) same;
}
loses_here which node old new (inl one) = record {
  gone = λ q none. pick q none (is_or_not q one.0);
  others = λ q other. one.1.only.others q (λ is. other (subst (λ (name : List ℕ). IsNameOf which node name) (sym is) one.1.there.0));
} where
  pick : (q : List ℕ) → (old.file q).now ≡ None → (q ≡ one.0) ⊎ (q ≢ one.0) → (new.file q).now ≡ None
  pick q none (inl is) = ap (λ (name : List ℕ). (new.file name).now) is ∙ one.1.removed.now
  pick q none (inr other) = ap (λ (f : OneFile). f.now) (one.1.only.others q other) ∙ none

pub loses : (which : DataId) (node place : ℕ) (old new : ℕ → DeviceState) → OnlyAt place (RemovesAtMost which node) old new → Loses which node place (cells_of old) (cells_of new)
loses which node place old new done = record {
  gone = λ p q none. gone_at p q none (cases_eq p place);
  others = λ p q other. same_at p q other (cases_eq p place);
  elsewhere = λ p q away. ap (λ (d : DeviceState). (d.file q).now) (done.others p away);
} where
  here : LosesHere which node (old place) (new place)
  here = loses_here which node (old place) (new place) done.here

  gone_at : (p : ℕ) (q : List ℕ) → cells_of old p q ≡ None → (p ≡ place) ⊎ (p ≢ place) → cells_of new p q ≡ None
  gone_at p q none (inl is) = subst (λ (x : ℕ). cells_of new x q ≡ None) (sym is) (here.gone q (subst (λ (x : ℕ). cells_of old x q ≡ None) is none))
  gone_at p q none (inr away) = ap (λ (d : DeviceState). (d.file q).now) (done.others p away) ∙ none

  same_at : (p : ℕ) (q : List ℕ) → (IsNameOf which node q → ⊥) → (p ≡ place) ⊎ (p ≢ place) → cells_of new p q ≡ cells_of old p q
  same_at p q other (inl is) = subst (λ (x : ℕ). cells_of new x q ≡ cells_of old x q) (sym is) (ap (λ (f : OneFile). f.now) (here.others q other))
  same_at p q other (inr away) = ap (λ (d : DeviceState). (d.file q).now) (done.others p away)

-- what is at rest under other names stays so
pub others_rest : (which : DataId) (node place : ℕ) (old new : ℕ → DeviceState) → OnlyAt place (RemovesAtMost which node) old new → (p : ℕ) (q : List ℕ) → (p ≡ place → IsNameOf which node q → ⊥) → IsAtRest ((old p).file q) → IsAtRest ((new p).file q)
others_rest which node place old new done p q other rest = pick (cases_eq p place) where
  pick : (p ≡ place) ⊎ (p ≢ place) → IsAtRest ((new p).file q)
  pick (inl is) = subst (λ (x : ℕ). IsAtRest ((new x).file q)) (sym is)
      (subst (λ (f : OneFile). IsAtRest f) (sym ((loses_here which node (old place) (new place) done.here).others q (other is))) (subst (λ (x : ℕ). IsAtRest ((old x).file q)) is rest))
  pick (inr away) = subst (λ (d : DeviceState). IsAtRest (d.file q)) (sym (done.others p away)) rest

-- ## Names of other datasets

pub file_of : (which : DataId) (ranks rank j : ℕ) → rank < 2 ^ 8 → j < 2 ^ 8 → IsNameOf which (rank / ranks) (file_name which ranks rank j)
file_of which ranks rank j small few = inr (File (rank % ranks) j, (mod_small rank ranks small, few), refl)

pub not_of_other : (which other : DataId) (node place : ℕ) (name : List ℕ) → IsPlace which node → IsPlace other place → other ≢ which → IsNameOf other place name → IsNameOf which node name → ⊥
not_of_other which other node place name w o differs of_other of =
    let s = members-same other which place node name o w of_other of in
    differs (data-same other which s.id s.run)

-- ## What the datasets in cache keep

module _ (c : RunState) (m : Manifest) (n place : ℕ) (old new : Cells) (w : IsWell c) (opened : c.opened ≡ Some m) (small : n < 2 ^ 8) (low : place < 32) (loss : Loses m.desc.which n place old new) where
  here : IsPlace m.desc.which n
  here = is_place m.desc n small

  other_file : (x : DataId) (p rank j : ℕ) → x ≢ m.desc.which → IsNamed x rank j → new p (file_name x c.shape.ranks rank j) ≡ old p (file_name x c.shape.ranks rank j)
  other_file x p rank j differs is =
      loss.others p (file_name x c.shape.ranks rank j) (not_of_other m.desc.which x n (rank / c.shape.ranks) (file_name x c.shape.ranks rank j) here (place_named x rank j c.shape.ranks is) differs (file_of x c.shape.ranks rank j is.rank_is is.file))

  other_contents : (x : DataId) → x ≢ m.desc.which → contents_in new c.places c.shape.ranks x ≡ contents_in old c.places c.shape.ranks x
  other_contents x differs = fun_ext (λ rank. fun_ext (λ j. pick rank j (is_named x rank j) refl)) where
    pick : (rank j : ℕ) (b : Bool) → is_named x rank j ≡ b → (if b then bytes_of (new (place_of_rank c.places c.shape.ranks rank) (file_name x c.shape.ranks rank j)) else []) ≡ (if b then bytes_of (old (place_of_rank c.places c.shape.ranks rank) (file_name x c.shape.ranks rank j)) else [])
    pick rank j true e = ap bytes_of (other_file x (place_of_rank c.places c.shape.ranks rank) rank j differs (named x rank j e))
    pick rank j false e = refl

  pub kept_stand : (x : Manifest) → IsAmong c.kept x → FilesStand old c.places c.shape.ranks x → FilesStand new c.places c.shape.ranks x
  kept_stand x among stand rank j row at =
      let of = w.sets x (inr among) in
      let lt = row_rank x.files rank j row at in
      let is = row_named c.shape c.run x rank j of lt (omega (arith, few_rows c.shape c.run x rank of lt, slice_get_within (rows_of x.files rank) j row at)) in
      subst (λ (o : Option (List ℕ)). FileStands o row) (sym (other_file x.desc.which (place_of_rank c.places c.shape.ranks rank) rank j (kept_other c m x w opened among) is)) (stand rank j row at)

  pub records_kept : (x : Manifest) → IsAmong c.kept x → RecordsStand old c.places x → RecordsStand new c.places x
  records_kept x among stand node p home =
      subst (λ (o : Option (List ℕ)). RecordIs o x node true true)
      (sym (loss.others p (record_name x.desc.which node) (not_of_other m.desc.which x.desc.which n node (record_name x.desc.which node) here (is_place x.desc node (node_small c node p w home)) (kept_other c m x w opened among) (inl refl))))
      (stand node p home)

  pub others_gone : (known : Manifest → Type 0) → NoOtherRecords known old c.places → NoOtherRecords known new c.places
  others_gone known none p which node lw at foreign = loss.gone p (record_name which node) (none p which node lw at foreign)

  pub future_gone : (run next : ℕ) → NoFutureFiles old run next → NoFutureFiles new run next
  future_gone run next none p which node local j lw at sl sj future = loss.gone p (part_name which node (File local j)) (none p which node local j lw at sl sj future)

  pub prefix_same : new 32 ≡ old 32
  prefix_same = fun_ext (λ q. loss.elsewhere 32 q (λ e. absurd (omega (arith, e, low))))

  pub stored_same : stored_run new ≡ stored_run old
  stored_same = ap (λ (f : List ℕ → Option (List ℕ)). Rattle.site_calls.specs.Numbers.run_number (Rattle.gated_record.specs.Pair.pair_value (codes "run") f)) prefix_same

  pub kept_same : (s : Setup) → map (kept_of s (contents_in new c.places c.shape.ranks) c.places) c.kept ≡ map (kept_of s (contents_in old c.places c.shape.ranks) c.places) c.kept
  kept_same s = each c.kept (λ i x at. other_contents x.manifest.desc.which (kept_other c m x.manifest w opened (i, x, at, refl))) where
    one : (x : Cached) → contents_in new c.places c.shape.ranks x.manifest.desc.which ≡ contents_in old c.places c.shape.ranks x.manifest.desc.which
        → kept_of s (contents_in new c.places c.shape.ranks) c.places x ≡ kept_of s (contents_in old c.places c.shape.ranks) c.places x
    one x e = ap (λ (bytes : ℕ → ℕ → List ℕ). let k : Kept = kept_of s (contents_in new c.places c.shape.ranks) c.places x in let d : Dataset = k.dataset in record k { dataset = record d { files = all_files bytes 0 x.manifest.files } }) e

    each : (xs : List Cached) → ((i : ℕ) (x : Cached) → slice_get xs i ≡ Some x → contents_in new c.places c.shape.ranks x.manifest.desc.which ≡ contents_in old c.places c.shape.ranks x.manifest.desc.which)
        → map (kept_of s (contents_in new c.places c.shape.ranks) c.places) xs ≡ map (kept_of s (contents_in old c.places c.shape.ranks) c.places) xs
    each [] same = refl
    each (x ∷ xs) same = rw (one x (same 0 x refl), each xs (λ i y at. same (suc i) y at)) refl
