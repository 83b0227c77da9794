-- A file of a member that leaves is removed, and its node is synced: what it makes of the dataset and of the site.
use Rattle.std.proofs.Common.{◌≡◌, ◌≢◌, ◌⊎◌, ◌≤◌, inl, inr, ◌<◌, ℕ, suc, Bool, true, false, List, length, Option, Some, None, refl, sym, ◌∙◌, ap, subst, arith}
use Rattle.std.specs.Prelude.{slice_get, bytes_eq, option_map}
use Rattle.std.proofs.lemmas.Bool.{cases_eq}
use Rattle.std.proofs.lemmas.Option.{slice_get_within}
use Rattle.std.proofs.lemmas.Slice.Eq.{bytes_eq-Decides}
use Rattle.node_device.specs.File.{File, IsAtRest, IsRemoved}
use Rattle.node_device.specs.DeviceState.{DeviceState, IsSound}
use Rattle.node_device.specs.Rack.{OnlyAt}
use Rattle.gate_outcomes.specs.Gates.{StaysShut}
use Rattle.gate_outcomes.proofs.Stays.{removed_shut}
use Rattle.member_store.specs.Calls.{RemovesFile, RemovesAtMost, HasNoFile}
use Rattle.member_store.specs.Names.{record_name, IsPlace, IsNameOf}
use Rattle.member_store.proofs.Distinct.{one_member}
use Rattle.ckpt_model.specs.Dataset.{Dataset}
use Rattle.ckpt_model.specs.Machine.{Machine, Setup}
use Rattle.site_stands.specs.Cells.{physical_nodes}
use Rattle.site_stands.specs.MemberMoves.{ChangesAt}
use Rattle.site_stands.specs.Members.{IsUnsealed, NoneSealed}
use Rattle.site_stands.specs.Site.{SiteStands}
use Rattle.site_stands.proofs.Keeping.Kept.{same_file, site_kept}
use Rattle.site_stands.proofs.Moving.Datasets.{free_step}
use Rattle.site_stands.proofs.Moving.Files.{change_beside, change_moves}
use Rattle.site_stands.proofs.Moving.Members.{unsealed_of_shut, unsealed_still}
use Rattle.site_calls.specs.Calls.{Synced}
use Rattle.evict_core.specs.Holds.{IsOutOfCache, ClearedTo, ShutTo}
use Rattle.evict_core.proofs.ClosingGates.{synced_site}
use Rattle.evict_core.proofs.GateTurns.{shut_synced}

-- two names are one, or not
is_or_not : (a b : List ℕ) → (a ≡ b) ⊎ (a ≢ b)
is_or_not a b = pick (bytes_eq a b) refl where
  pick : (t : Bool) → bytes_eq a b ≡ t → (a ≡ b) ⊎ (a ≢ b)
  pick true e = inl ((bytes_eq-Decides a b).0 e)
  pick false e = inr (λ same. absurd (let is = (bytes_eq-Decides a b).1 same in cc (e, is)))

one_place : (places : List ℕ) (node a b : ℕ) → slice_get places node ≡ Some a → slice_get places node ≡ Some b → a ≡ b
one_place places node a b x y = cc (x, y)

module _ (s : Setup) (m : Machine) (d : Dataset) (named : (node : ℕ) → node < s.shape.nodes → IsPlace d.which node) (count : length m.places ≡ s.shape.nodes) (so_far : d.which.run ≤ m.run) (old new : ℕ → DeviceState) (node place : ℕ) (home : slice_get m.places node ≡ Some place) (low : place < physical_nodes s.shape) (stands : SiteStands s old m) where
  small : node < s.shape.nodes
  small = omega (arith, count, slice_get_within m.places node place home)

  -- ## A file goes

  module _ (elsewhere : (q : ℕ) → q ≢ place → new q ≡ old q) (name : List ℕ) (goes : RemovesFile d.which node name (old place) (new place)) (sound : IsSound (old place)) where
    changes : ChangesAt d.which node name place old new
    changes = record { its = goes.there.0; elsewhere = elsewhere; others = goes.only.others }

    -- what may come back of the record has the gate shut
    own_shut : StaysShut ((old place).file (record_name d.which node)) 1 → StaysShut ((new place).file (record_name d.which node)) 1
    own_shut shut = elim (is_or_not (record_name d.which node) name) [
      | inl is ↦ removed_shut ((old place).file (record_name d.which node)) ((new place).file (record_name d.which node)) 1 (sound.stable_allowed (record_name d.which node))
          (subst (λ (n : List ℕ). IsRemoved ((old place).file n) ((new place).file n)) (sym is) goes.removed) shut
      | inr other ↦ subst (λ (f : File). StaysShut f 1) (sym (goes.only.others (record_name d.which node) other)) shut
    ]

    other_file : (p i : ℕ) (q : List ℕ) → i ≢ node → i < s.shape.nodes → IsNameOf d.which i q → (new p).file q ≡ (old p).file q
    other_file p i q differs within is = elim (cases_eq p place) [
      | inl here ↦ subst (λ (x : ℕ). (new x).file q ≡ (old x).file q) (sym here)
          (goes.only.others q (λ same. differs (one_member d.which d.which i node q (named i within) (named node small) is (subst (λ (n : List ℕ). IsNameOf d.which node n) (sym same) goes.there.0)).1))
      | inr away ↦ ap (λ (x : DeviceState). x.file q) (elsewhere p away)
    ]

    gone_shut : ShutTo old m.places d.which (length m.places) → ShutTo new m.places d.which (length m.places)
    gone_shut shut i p lt at = elim (cases_eq i node) [
      | inl same ↦
          let here : p ≡ place = one_place m.places node p place (subst (λ (x : ℕ). slice_get m.places x ≡ Some p) same at) home in
          subst (λ (x : ℕ). StaysShut ((new p).file (record_name d.which x)) 1) (sym same) (subst (λ (x : ℕ). StaysShut ((new x).file (record_name d.which node)) 1) (sym here) (own_shut (shut node place (slice_get_within m.places node place home) home)))
      | inr other ↦ subst (λ (f : File). StaysShut f 1) (sym (other_file p i (record_name d.which i) other (omega (arith, lt, count)) (inl refl))) (shut i p lt at)
    ]

    gone_unsealed : NoneSealed s.shape old d.which → ShutTo old m.places d.which (length m.places) → NoneSealed s.shape new d.which
    gone_unsealed unsealed shut p i low_p = elim (cases_eq i node) [
      | inl same ↦ elim (cases_eq p place) [
        | inl here ↦ subst (λ (x : ℕ). IsUnsealed s.shape ((new p).file (record_name d.which x)) d.which x) (sym same) (subst (λ (x : ℕ). IsUnsealed s.shape ((new x).file (record_name d.which node)) d.which node) (sym here)
            (unsealed_of_shut s.shape ((new place).file (record_name d.which node)) d.which node (own_shut (shut node place (slice_get_within m.places node place home) home)).shut))
        | inr away ↦ subst (λ (x : DeviceState). IsUnsealed s.shape (x.file (record_name d.which i)) d.which i) (sym (elsewhere p away)) (unsealed p i low_p)
      ]
      | inr other ↦ unsealed_still s.shape (old p) (new p) d.which i (change_beside s.shape d.which node name place old new (named node small) changes i other p low_p) (unsealed p i low_p)
    ]

    gone_cleared : ClearedTo old m.places d.which node → ClearedTo new m.places d.which node
    gone_cleared cleared i p lt at q is = subst (λ (f : File). (f.now ≡ None) × IsAtRest f) (sym (other_file p i q (λ e. absurd (omega (arith, lt, e))) (omega (arith, lt, small)) is)) (cleared i p lt at q is)

    file_goes : IsOutOfCache s old m d node → SiteStands s new m × IsOutOfCache s new m d node
    file_goes leaving =
        let unsealed = gone_unsealed leaving.unsealed leaving.shut in (
          free_step s old new m d.which leaving.gone so_far (change_moves s.shape d.which node name place old new (named node small) changes low) unsealed stands,
          record { gone = leaving.gone; unsealed = unsealed; shut = gone_shut leaving.shut; cleared = gone_cleared leaving.cleared },
        )

  -- ## None goes

  none_goes : ((p : ℕ) (q : List ℕ) → (new p).file q ≡ (old p).file q) → IsOutOfCache s old m d node → SiteStands s new m × IsOutOfCache s new m d node
  none_goes same leaving = (
    site_kept s old new m (λ p q le. same_file ((old p).file q) ((new p).file q) (same p q)) stands,
    record {
      gone = leaving.gone;
      unsealed = λ p i low_p. subst (λ (f : File). IsUnsealed s.shape f d.which i) (sym (same p (record_name d.which i))) (leaving.unsealed p i low_p);
      shut = λ i p lt at. subst (λ (f : File). StaysShut f 1) (sym (same p (record_name d.which i))) (leaving.shut i p lt at);
      cleared = λ i p lt at q is. subst (λ (f : File). (f.now ≡ None) × IsAtRest f) (sym (same p q)) (leaving.cleared i p lt at q is);
    },
  )

  pub removed : OnlyAt place (RemovesAtMost d.which node) old new → IsSound (old place) → IsOutOfCache s old m d node → SiteStands s new m × IsOutOfCache s new m d node
  removed done sound leaving = pick done.here
    where
      pick : RemovesAtMost d.which node (old place) (new place) → SiteStands s new m × IsOutOfCache s new m d node
      pick (inl one) = file_goes done.others one.0 one.1 sound leaving
      pick (inr unchanged) = none_goes same leaving
        where
          same : (p : ℕ) (q : List ℕ) → (new p).file q ≡ (old p).file q
          same p q = elim (cases_eq p place) [
            | inl here ↦ subst (λ (x : ℕ). (new x).file q ≡ (old x).file q) (sym here) (ap (λ (x : DeviceState). x.file q) unchanged)
            | inr away ↦ ap (λ (x : DeviceState). x.file q) (done.others p away)
          ]

  -- ## The node is synced

  no_length : (o : Option (List ℕ)) → None ≡ option_map length o → o ≡ None
  no_length None is = refl
  no_length (Some bytes) is = absurd (cc is)

  pub cleared : OnlyAt place Synced old new → IsSound (old place) → (old place).tells ≡ true → HasNoFile d.which node (old place) → IsOutOfCache s old m d node → SiteStands s new m × IsOutOfCache s new m d (suc node)
  cleared done sound told none leaving =
      let site = synced_site s m place old new done stands in (
        site,
        record {
          gone = leaving.gone;
          unsealed = site.nodes.others d.which leaving.gone;
          shut = shut_synced old new m.places d.which (length m.places) place done.others done.here.partly leaving.shut;
          cleared = λ i p lt at q is. elim (cases_eq p place) [
            | inl here ↦ subst (λ (x : ℕ). (((new x).file q).now ≡ None) × IsAtRest ((new x).file q)) (sym here) ((done.here.alike.files q).now ∙ nothing i p lt at q is here, done.here.at_rest q)
            | inr away ↦ subst (λ (x : DeviceState). ((x.file q).now ≡ None) × IsAtRest (x.file q)) (sym (done.others p away)) (leaving.cleared i p (before i p lt at away) at q is)
          ];
        },
      )
    where
      before : (i p : ℕ) → i < suc node → slice_get m.places i ≡ Some p → p ≢ place → i < node
      before i p lt at away = elim (cases_eq i node) [
        | inl same ↦ absurd (away (one_place m.places node p place (subst (λ (x : ℕ). slice_get m.places x ≡ Some p) same at) home))
        | inr other ↦ omega (arith, lt, other)
      ]

      nothing : (i p : ℕ) → i < suc node → slice_get m.places i ≡ Some p → (q : List ℕ) → IsNameOf d.which i q → p ≡ place → ((old place).file q).now ≡ None
      nothing i p lt at q is here = elim (cases_eq i node) [
        | inl same ↦ no_length ((old place).file q).now (sym (none q (subst (λ (x : ℕ). IsNameOf d.which x q) same is)) ∙ sound.lengths told q)
        | inr other ↦ subst (λ (x : ℕ). ((old x).file q).now ≡ None) here (leaving.cleared i p (omega (arith, lt, other)) at q is).0
      ]
