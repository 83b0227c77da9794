-- The lengths of the streams of a set's members, one more at a time.
use Rattle.std.proofs.Common.{◌≡◌, ℕ, ◌+◌, ◌*◌, ◌/◌, ◌%◌, ◌<◌, ◌≤◌, ◌==◌, Bool, IsTrue, List, [], ◌∷◌, ◌++◌, length, map, take, slice_index, sym, ap, subst, ◌∙◌, arith, inl, inr}
use Rattle.std.proofs.Math.Nat.{mod-eq_of_lt, div-le_self}
use Rattle.std.proofs.lemmas.Nat.{div-mul-add, mod-mul-add}
use Rattle.std.proofs.lemmas.Bool.{cases_lt}
use Rattle.std.proofs.lemmas.List.{length-map, get_or-map, map_more, take_all}
use Rattle.std.proofs.lemmas.List.Sums.{length-filter, count_by-le-length, AllPass-from_list_all}
use Rattle.std.proofs.lemmas.List.FromFn.{length-range_with_len}
use Rattle.scr_base.specs.declared.shape.Scheme.{Scheme}
use Rattle.scr_base.specs.Sets.{numbers_below, group_count, nodes_of_group, ranks_of_set, fits_set, fits_sets}
use Rattle.scr_base.proofs.Chosen.{number_at}
use Rattle.process_sets.proofs.Groups.{members_spread, member_below, place_within}
use Rattle.member_shares.specs.Shares.{IsSet}
use Rattle.commit_core.specs.Pieces.{set_lengths}

length-ranks : (nodes ranks size group local : ℕ) → length (ranks_of_set nodes ranks size group local) ≡ length (nodes_of_group nodes size group)
length-ranks nodes ranks size group local = length-map (nodes_of_group nodes size group) (λ i. i * ranks + local)

pub length-lengths : (nodes ranks size group local : ℕ) (lengths : List ℕ) → length (set_lengths nodes ranks size group local lengths) ≡ length (nodes_of_group nodes size group)
length-lengths nodes ranks size group local lengths =
    length-map (ranks_of_set nodes ranks size group local) (slice_index lengths) ∙ length-ranks nodes ranks size group local

-- ---- a group has members enough for its scheme
some_member : (nodes size group : ℕ) → 1 ≤ nodes → group < group_count nodes size → 1 ≤ length (nodes_of_group nodes size group)
some_member nodes size group some h =
    let g : ℕ = group_count nodes size in
    let low : group < nodes = omega (arith, h, some, div-le_self nodes size) in
    let own : group % g ≡ group = mod-eq_of_lt h in
    let stands : group / g < length (nodes_of_group nodes size group) =
    subst (λ t. group / g < length (nodes_of_group nodes size t)) own (place_within nodes g group (omega (arith, h)) low) in
    omega (arith, stands)

few_members : (nodes size group : ℕ) → length (nodes_of_group nodes size group) ≤ nodes
few_members nodes size group =
    let p : ℕ → Bool = λ i. i % group_count nodes size == group in
    omega (arith, length-filter p (numbers_below nodes), count_by-le-length p (numbers_below nodes), length-range_with_len 0 nodes)

pub set_is : (scheme : Scheme) (nodes ranks size group local : ℕ) (lengths : List ℕ) → 1 ≤ nodes → nodes ≤ 16 → group < group_count nodes size
    → IsTrue (fits_sets scheme size nodes) → IsSet scheme (length (set_lengths nodes ranks size group local lengths))
set_is scheme nodes ranks size group local lengths some few h fits =
    let p : ℕ → Bool = λ i. fits_set scheme (length (nodes_of_group nodes size i)) in
    let own = AllPass-from_list_all p (numbers_below (group_count nodes size)) fits in
    subst (IsSet scheme) (sym (length-lengths nodes ranks size group local lengths))
    (record {
      some = some_member nodes size group some h;
      few = omega (arith, few, few_members nodes size group);
      fits = subst (λ t. IsTrue (p t)) (number_at (group_count nodes size) group h) (own group 0 (omega (arith, h, length-range_with_len 0 (group_count nodes size))));
    })

-- ---- the nodes of a group, in rounds
module _ (nodes ranks size group local : ℕ) (lengths : List ℕ) (h : group < group_count nodes size) (k node : ℕ) (is : node ≡ k * group_count nodes size + group) where
  abbrev members : List ℕ
  members = nodes_of_group nodes size group

  pub member_more : node < nodes → k < length members
  member_more low =
      let g : ℕ = group_count nodes size in
      let round : node / g ≡ k = ap (λ t. t / g) is ∙ div-mul-add k g group h in
      let own : node % g ≡ group = ap (λ t. t % g) is ∙ mod-mul-add k g group h in
      let stands : node / g < length (nodes_of_group nodes size group) =
      subst (λ t. node / g < length (nodes_of_group nodes size t)) own (place_within nodes g node (omega (arith, h)) low) in
      omega (arith, stands, round)

  node_at : k < length members → slice_index members k ≡ node
  node_at low = (members_spread nodes (group_count nodes size) group h).at k low ∙ omega (arith, is)

  pub lengths_more : (old new : List ℕ) → node < nodes → length old ≡ k → old ≡ map (slice_index lengths) (take k (ranks_of_set nodes ranks size group local))
      → new ≡ old ++ slice_index lengths (node * ranks + local) ∷ [] → new ≡ map (slice_index lengths) (take (k + 1) (ranks_of_set nodes ranks size group local))
  lengths_more old new low size_is before more =
      let there : k < length members = member_more low in
      let rank : slice_index (ranks_of_set nodes ranks size group local) k ≡ node * ranks + local =
      get_or-map (λ i. i * ranks + local) members k 0 0 there ∙ ap (λ i. i * ranks + local) (node_at there) in
      more
      ∙ ap (λ xs. xs ++ slice_index lengths (node * ranks + local) ∷ []) before
      ∙ ap (λ t. map (slice_index lengths) (take k (ranks_of_set nodes ranks size group local)) ++ slice_index lengths t ∷ []) (sym rank)
      ∙ sym (map_more (slice_index lengths) (ranks_of_set nodes ranks size group local) k 0 (omega (arith, there, length-ranks nodes ranks size group local)))

  pub all_members : nodes ≤ node → k ≤ length members → k ≡ length members
  all_members past within =
      elim (cases_lt k (length members)) [
        | inl low ↦ absurd (omega (arith, member_below nodes (group_count nodes size) group k low, node_at low, past))
        | inr high ↦ omega (arith, high, within)
      ]

pub all_lengths : (nodes ranks size group local : ℕ) (lengths own : List ℕ) → length own ≡ length (nodes_of_group nodes size group)
    → own ≡ map (slice_index lengths) (take (length own) (ranks_of_set nodes ranks size group local)) → own ≡ set_lengths nodes ranks size group local lengths
all_lengths nodes ranks size group local lengths own size_is so =
    so ∙ ap (map (slice_index lengths)) (take_all (length own) (ranks_of_set nodes ranks size group local) (omega (arith, size_is, length-ranks nodes ranks size group local)))
