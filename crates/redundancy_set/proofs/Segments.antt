-- The segments that complete a stripe are those of the shares, or of the streams.
use Rattle.std.proofs.Common.{◌≡◌, ◌≢◌, ℕ, ◌+◌, ◌-◌, ◌*◌, ◌%◌, ◌<◌, ◌≤◌, ◌&&◌, not, min, Bool, true, false, List, [], length, take, add-one, map, slice_index, slice_index_or, Option, Some, None, refl, sym, ap, ap₂, subst, ◌∙◌, arith, inl, inr, ◌⊎◌}
use Rattle.std.specs.Option.{IsNone, IfSome, is_none}
use Rattle.std.specs.List.{filter}
use Rattle.std.specs.Int.{div_ceil}
use Rattle.std.proofs.Math.Nat.{mul_comm}
use Rattle.std.proofs.lemmas.Bool.{cases_Bool, leb-true, eqb-true}
use Rattle.std.proofs.lemmas.Grind.{div_ceil_times}
use Rattle.std.proofs.lemmas.Nat.{mod_below}
use Rattle.std.proofs.lemmas.List.{take_all}
use Rattle.scr_base.specs.declared.shape.Scheme.{Scheme}
use Rattle.scr_base.specs.declared.shape.Scheme.TheVariants.{Single, Partner, Xor, Rs}
use Rattle.scr_base.specs.Sets.{numbers_below, is_among, bears_members}
use Rattle.reed_solomon.specs.Stripe.{known_places}
use Rattle.partner_copy.specs.declared.Held.{Held}
use Rattle.partner_copy.specs.Partner.{IsMemberOf, AreBothLost, IsStreamOf}
use Rattle.partner_copy.proofs.Neighbours.{stream_from}
use Rattle.process_sets.proofs.Groups.{not_all_numbers, among_chosen}
use Rattle.member_shares.specs.Layout.{holds_parity, parity_place, data_place, cell, column}
use Rattle.member_shares.specs.Shares.{parity_count, longest, segment_length, IsCodeColumn, AreParityShares, IsParityShare, IsShare, IsMember, AreMembers, IsSet}
use Rattle.member_shares.proofs.Ranks.{rank, has_rank, stands_at}
use Rattle.member_shares.proofs.Places.{data_holders, parity_all, parity_place_is, parity_place_in, data_place_in, data_place_out}
use Rattle.member_shares.proofs.Columns.{length-column, index-column, cell_parity, cell_data, one_list}
use Rattle.redundancy_set.specs.Known.{IsKnown, is_lost, held_cell, held_byte, stream_byte}
use Rattle.redundancy_set.specs.Sums.{AppendsCode, has_data, is_there}
use Rattle.redundancy_set.specs.Recovered.{lost_places}
use Rattle.redundancy_set.proofs.KnownLemmas.{rank_both, count_known}
use Rattle.redundancy_set.proofs.Joined.{take_grown, next_place, rows_fit}
use Rattle.redundancy_set.proofs.LongestLemmas.{longest_covers}
use Rattle.redundancy_set.proofs.SumLemmas.{free_of}

clash : (b : Bool) → b ≡ true → b ≡ false → ⊥
clash b e f = cc

-- a member has at most p parity segments
parity_most : (n p m s : ℕ) → m < n → p ≤ n → s ≤ n → parity_place n p m s ≤ p
parity_most n p m s l few h = omega (arith, parity_place_is n p m s l few h)

-- the shares of n members, with p parity segments a stripe
pub record AreSharesOf (scheme : Scheme) (n p c : ℕ) (streams shares : List (List ℕ)) : Type 0 where
  pub sizes : (m : ℕ) → m < n → length (slice_index_or shares m []) ≡ p * c
  pub columns : (s b : ℕ) → s < n → b < c → IsCodeColumn scheme (column n p c s b streams shares)

pub shares_of : (scheme : Scheme) (n p c : ℕ) (streams shares : List (List ℕ)) → n ≡ length streams → p ≡ parity_count scheme
    → AreParityShares scheme c streams shares → AreSharesOf scheme n p c streams shares
shares_of scheme n p c streams shares en ep right =
    subst (λ t. AreSharesOf scheme t p c streams shares) (sym en)
    (subst (λ t. AreSharesOf scheme (length streams) t c streams shares) (sym ep) (record { sizes = right.sizes; columns = right.columns }))

-- ---- a parity segment, from the data
parity_segment : (scheme : Scheme) (n p c : ℕ) (streams shares : List (List ℕ)) (s i : ℕ) (old new : List ℕ)
    → AreSharesOf scheme n p c streams shares → AppendsCode scheme n i c (has_data n p s) (stream_byte n p c s streams) old new
    → s < n → i < n → holds_parity n p s i ≡ true
    → (b : ℕ) → b < c → slice_index new (length old + b) ≡ slice_index (slice_index_or shares i []) (parity_place n p i s * c + b)
parity_segment scheme n p c streams shares s i old new right whole h l held b low =
    whole.value b low (column n p c s b streams shares) (length-column n p c s b streams shares) (right.columns s b h low)
    (λ m small free.
    index-column n p c s b m streams shares small
    ∙ cell_data n p c m s b (slice_index_or streams m []) (slice_index_or shares m []) (free_of (holds_parity n p s m) free))
    ∙ index-column n p c s b i streams shares l
    ∙ cell_parity n p c i s b (slice_index_or streams i []) (slice_index_or shares i []) held

-- a share's first segments, and one more
pub parity_step : (scheme : Scheme) (n p c : ℕ) (streams shares : List (List ℕ)) (s i : ℕ) (old new : List ℕ)
    → AreSharesOf scheme n p c streams shares → AppendsCode scheme n i c (has_data n p s) (stream_byte n p c s streams) old new
    → s < n → i < n → p ≤ n → holds_parity n p s i ≡ true
    → old ≡ take (parity_place n p i s * c) (slice_index_or shares i [])
    → new ≡ take (parity_place n p i (s + 1) * c) (slice_index_or shares i [])
parity_step scheme n p c streams shares s i old new right whole h l few held before =
    let q : ℕ = parity_place n p i s in
    let share : List ℕ = slice_index_or shares i [] in
    let more : parity_place n p i (s + 1) ≡ q + 1 = rw add-one (parity_place_in n p i s held) in
    let most : parity_place n p i (s + 1) ≤ p = parity_most n p i (s + 1) l few (omega arith) in
    let room : c ≡ min c (length share - q * c) = omega (arith, right.sizes i l, rows_fit q p c (omega arith)) in
    take_grown share old new (q * c) c c before whole.size whole.front room (parity_segment scheme n p c streams shares s i old new right whole h l held)
    ∙ ap (λ t. take t share) (sym (next_place q (parity_place n p i (s + 1)) c more))

-- the data of a stripe are enough
pub data_enough : (scheme : Scheme) (n p c s : ℕ) (byte : ℕ → ℕ → ℕ) (known : List (Option (List ℕ))) → p ≡ parity_count scheme → p ≤ n → s < n
    → IsKnown n c (holds_parity n p s) byte known → length known - parity_count scheme ≤ length (known_places known)
data_enough scheme n p c s byte known ep few h k =
    omega (arith, k.count, count_known n c (holds_parity n p s) byte known k, rank_both (holds_parity n p s) n, data_holders n p s h few)

-- ---- what the members hold, with one list of shares
pub record AreHeld (scheme : Scheme) (n p c : ℕ) (streams shares : List (List ℕ)) (members : List (Option Held)) : Type 0 where
  pub right : AreSharesOf scheme n p c streams shares
  pub each : (m : ℕ) → m < n → IfSome (slice_index_or members m None) (λ held. (held.stream ≡ slice_index_or streams m []) × (held.share ≡ slice_index_or shares m []))

held_agrees : (n p c m s b : ℕ) (o : Option Held) (stream share : List ℕ) → IfSome o (λ held. (held.stream ≡ stream) × (held.share ≡ share)) → is_none o ≡ false
    → cell n p c m s b stream share ≡ held_cell n p c m s b o
held_agrees n p c m s b None stream share h e = cc
held_agrees n p c m s b (Some held) stream share h e = ap₂ (cell n p c m s b) (sym h.0) (sym h.1)

data_segment : (scheme : Scheme) (n p c len : ℕ) (streams shares : List (List ℕ)) (members : List (Option Held)) (s i : ℕ) (old new : List ℕ)
    → AreHeld scheme n p c streams shares members → AppendsCode scheme n i len (is_there members) (held_byte n p c s members) old new
    → len ≤ c → s < n → i < n → holds_parity n p s i ≡ false
    → (b : ℕ) → b < len → slice_index new (length old + b) ≡ slice_index (slice_index_or streams i []) (data_place n p i s * c + b)
data_segment scheme n p c len streams shares members s i old new a whole short h l free b low =
    whole.value b low (column n p c s b streams shares) (length-column n p c s b streams shares) (a.right.columns s b h (omega arith))
    (λ m small there.
    index-column n p c s b m streams shares small
    ∙ held_agrees n p c m s b (slice_index_or members m None) (slice_index_or streams m []) (slice_index_or shares m []) (a.each m small)
    (free_of (is_lost members m) there))
    ∙ index-column n p c s b i streams shares l
    ∙ cell_data n p c i s b (slice_index_or streams i []) (slice_index_or shares i []) free

-- a stream's first segments, and one more as far as it goes
pub data_step : (scheme : Scheme) (n p c : ℕ) (streams shares : List (List ℕ)) (members : List (Option Held)) (s i len taken : ℕ) (old new : List ℕ)
    → AreHeld scheme n p c streams shares members → AppendsCode scheme n i taken (is_there members) (held_byte n p c s members) old new
    → s < n → i < n → holds_parity n p s i ≡ false → length (slice_index_or streams i []) ≡ len
    → taken ≡ min c (len - length old) → length old ≡ min (data_place n p i s * c) len
    → old ≡ take (data_place n p i s * c) (slice_index_or streams i [])
    → new ≡ take (data_place n p i (s + 1) * c) (slice_index_or streams i [])
data_step scheme n p c streams shares members s i len taken old new a whole h l free size piece long before =
    let q : ℕ = data_place n p i s in
    let stream : List ℕ = slice_index_or streams i [] in
    let more : data_place n p i (s + 1) ≡ q + 1 = rw add-one (data_place_in n p i s free) in
    let room : taken ≡ min c (length stream - q * c) = omega arith in
    take_grown stream old new (q * c) c taken before whole.size whole.front room
    (data_segment scheme n p c taken streams shares members s i old new a whole (omega arith) h l free)
    ∙ ap (λ t. take t stream) (sym (next_place q (data_place n p i (s + 1)) c more))

-- how long it is then
pub data_length : (n p c s i len taken : ℕ) (old new : List ℕ) → holds_parity n p s i ≡ false → taken ≡ min c (len - length old)
    → length old ≡ min (data_place n p i s * c) len → length new ≡ length old + taken → length new ≡ min (data_place n p i (s + 1) * c) len
data_length n p c s i len taken old new free piece long is =
    let q : ℕ = data_place n p i s in
    let more : data_place n p i (s + 1) ≡ q + 1 = rw add-one (data_place_in n p i s free) in
    omega (arith, next_place q (data_place n p i (s + 1)) c more)

-- where the stream is whole, or has parity in the stripe, nothing is added
pub data_same : (n p c s i len : ℕ) (old : List ℕ) → (holds_parity n p s i ≡ true) ⊎ (len ≤ length old) → length old ≡ min (data_place n p i s * c) len
    → (length old ≡ min (data_place n p i (s + 1) * c) len)
    × ((stream : List ℕ) → length stream ≡ len → old ≡ take (data_place n p i s * c) stream → old ≡ take (data_place n p i (s + 1) * c) stream)
data_same n p c s i len old why long =
    elim (cases_Bool (holds_parity n p s i)) [
      | inl held ↦
          let same : data_place n p i (s + 1) ≡ data_place n p i s = rw add-one (data_place_out n p i s held) in (
            long ∙ ap (λ t. min (t * c) len) (sym same),
            λ stream size before. before ∙ ap (λ t. take (t * c) stream) (sym same),
          )
      | inr free ↦
          let q : ℕ = data_place n p i s in
          let full : len ≤ length old = elim why [ inl held ↦ absurd (clash (holds_parity n p s i) held free) | inr full ↦ full ] in
          let more : data_place n p i (s + 1) ≡ q + 1 = rw add-one (data_place_in n p i s free) in
          let longer = next_place q (data_place n p i (s + 1)) c more in (
            omega (arith, longer),
            λ stream size before.
                before ∙ take_all (q * c) stream (omega arith) ∙ sym (take_all (data_place n p i (s + 1) * c) stream (omega (arith, longer))),
          )
    ]

-- ---- members that hold what they should share one list
parity_share : (scheme : Scheme) (streams : List (List ℕ)) (i : ℕ) (share : List ℕ) → scheme ≢ Single → scheme ≢ Partner → IsShare scheme streams i share
    → IsParityShare scheme streams i share
parity_share Single streams i share a b h = absurd (a refl)
parity_share Partner streams i share a b h = absurd (b refl)
parity_share Xor streams i share a b h = h
parity_share (Rs shares) streams i share a b h = h

one_share : (scheme : Scheme) (c : ℕ) (streams shares : List (List ℕ)) (m : ℕ) (o : Option Held) → IsSet scheme (length streams) → scheme ≢ Single → scheme ≢ Partner
    → segment_length scheme (map (length {A = ℕ}) streams) ≡ c → AreParityShares scheme c streams shares → IfSome o (IsMember scheme streams m)
    → IfSome o (λ held. (held.stream ≡ slice_index_or streams m []) × (held.share ≡ slice_index_or shares m []))
one_share scheme c streams shares m None set a b len right h = tt
one_share scheme c streams shares m (Some held) set a b len right h =
    let own = parity_share scheme streams m held.share a b h.share in
    let same : own.shares ≡ shares = one_list scheme c streams own.shares shares set (subst (λ t. AreParityShares scheme t streams own.shares) len own.right) right in
    (h.stream, own.own ∙ ap (λ xs. slice_index_or xs m []) same)

some_share : (scheme : Scheme) (c : ℕ) (streams : List (List ℕ)) (m : ℕ) (o : Option Held) → scheme ≢ Single → scheme ≢ Partner
    → segment_length scheme (map (length {A = ℕ}) streams) ≡ c → is_none o ≡ false → IfSome o (IsMember scheme streams m)
    → (shares : List (List ℕ)) × AreParityShares scheme c streams shares
some_share scheme c streams m None a b len e h = cc
some_share scheme c streams m (Some held) a b len e h =
    let own = parity_share scheme streams m held.share a b h.share in (own.shares, subst (λ t. AreParityShares scheme t streams own.shares) len own.right)

-- from one member that is there
pub are_held : (scheme : Scheme) (n p c : ℕ) (streams : List (List ℕ)) (members : List (Option Held)) (there : ℕ) → length members ≡ n → p ≡ parity_count scheme
    → IsSet scheme n → scheme ≢ Single → scheme ≢ Partner → segment_length scheme (map (length {A = ℕ}) streams) ≡ c
    → AreMembers scheme streams members → there < n → is_lost members there ≡ false
    → (shares : List (List ℕ)) × AreHeld scheme n p c streams shares members
are_held scheme n p c streams members there count ep set a b len m h e =
    let all : n ≡ length streams = sym count ∙ m.count in
    let some = some_share scheme c streams there (slice_index_or members there None) a b len e (m.each there (omega arith)) in (
      some.0,
      record {
        right = shares_of scheme n p c streams some.0 all ep some.1;
        each = λ k l. one_share scheme c streams some.0 k (slice_index_or members k None) (subst (IsSet scheme) all set) a b len some.1 (m.each k (omega arith));
      },
    )

-- where fewer are lost than there are one is there
pub one_there : (members : List (Option Held)) (n p : ℕ) → length members ≡ n → length (lost_places members) ≤ p → p < n
    → (there : ℕ) × (there < n) × (is_lost members there ≡ false)
one_there members n p count few more =
    let lost : length (lost_places members) ≡ rank (is_lost members) n = ap (rank (is_lost members)) count in
    let first = has_rank (λ i. not (is_lost members i)) n 0 (omega (arith, rank_both (is_lost members) n)) in (
      slice_index (filter (λ i. not (is_lost members i)) (numbers_below n)) 0,
      first.below,
      free_of (is_lost members (slice_index (filter (λ i. not (is_lost members i)) (numbers_below n)) 0)) first.passes,
    )

-- ---- what is borne
pub few_lost : (scheme : Scheme) (n : ℕ) (lost : List ℕ) → scheme ≢ Partner → bears_members scheme n lost ≡ true → length lost ≤ parity_count scheme
few_lost Single n lost ne e = let none : length lost ≡ 0 = eqb-true (length lost) 0 e in omega arith
few_lost Partner n lost ne e = absurd (ne refl)
few_lost Xor n lost ne e = leb-true (length lost) 1 e
few_lost (Rs shares) n lost ne e = leb-true (length lost) shares e

gone_is : (o : Option Held) → IsNone o → is_none o ≡ true
gone_is None h = refl
gone_is (Some held) h = cc

pub spared : (members : List (Option Held)) (n i : ℕ) → length members ≡ n → i < n → bears_members Partner n (lost_places members) ≡ true → ¬ AreBothLost members i
spared members n i count h e both =
    let next : (i + 1) % n < n = mod_below (i + 1) n (omega arith) in
    let lost_at : (k : ℕ) → k < n → is_lost members k ≡ true → is_among k (lost_places members) ≡ true = λ k l f.
    ap (λ t. is_among k (filter (is_lost members) (numbers_below t))) count ∙ among_chosen (is_lost members) n k l ∙ f in
    let first : is_among i (lost_places members) ≡ true = lost_at i h (gone_is (slice_index_or members i None) both.0) in
    let second : is_among ((i + 1) % n) (lost_places members) ≡ true =
    lost_at ((i + 1) % n) next (gone_is (slice_index_or members ((i + 1) % n) None) (subst (λ t. IsNone (slice_index_or members ((i + 1) % t) None)) count both.1)) in
    clash (bears_members Partner n (lost_places members)) e
    (not_all_numbers (λ k. not (is_among k (lost_places members) && is_among ((k + 1) % n) (lost_places members))) n i h (ap₂ (λ a b. not (a && b)) first second))

partner_held : (streams : List (List ℕ)) (m : ℕ) (o : Option Held) → IfSome o (IsMember Partner streams m) → IfSome o (IsMemberOf streams m)
partner_held streams m None h = tt
partner_held streams m (Some held) h = (h.stream, h.share)

pub partner_stream : (streams : List (List ℕ)) (members : List (Option Held)) (i : ℕ) (stream : List ℕ) → AreMembers Partner streams members → i < length members
    → ¬ AreBothLost members i → IsStreamOf members i stream → stream ≡ slice_index_or streams i []
partner_stream streams members i stream m h borne is =
    let n : ℕ = length members in
    let next : (i + 1) % n < n = mod_below (i + 1) n (omega arith) in
    stream_from streams n i (slice_index_or members i None) (slice_index_or members ((i + 1) % n) None) stream m.count h
    (partner_held streams i (slice_index_or members i None) (m.each i h))
    (partner_held streams ((i + 1) % n) (slice_index_or members ((i + 1) % n) None) (m.each ((i + 1) % n) next)) borne is

-- ---- the segments are long enough
pub segments_cover : (scheme : Scheme) (lengths : List ℕ) (n i c : ℕ) → parity_count scheme < n → i < length lengths
    → c ≡ div_ceil (longest lengths) (n - parity_count scheme) → slice_index lengths i ≤ (n - parity_count scheme) * c
segments_cover scheme lengths n i c few h is =
    let d : ℕ = n - parity_count scheme in
    let most = longest_covers lengths i h in
    let whole = div_ceil_times (longest lengths) d (omega arith) in
    let round : d * c ≡ div_ceil (longest lengths) d * d = ap (λ t. d * t) is ∙ mul_comm d (div_ceil (longest lengths) d) in
    let goal : slice_index lengths i ≤ d * c = omega (arith, whole.0, round) in
    goal

pub segment_length_is : (scheme : Scheme) (lengths : List ℕ) (n c : ℕ) → n ≡ length lengths → c ≡ div_ceil (longest lengths) (n - parity_count scheme)
    → segment_length scheme lengths ≡ c
unfolding segment_length
segment_length_is scheme lengths n c e is = ap (λ t. div_ceil (longest lengths) (t - parity_count scheme)) (sym e) ∙ sym is

-- a share that is whole is that of a list
pub share_is : (scheme : Scheme) (n p c i : ℕ) (streams shares : List (List ℕ)) (share : List ℕ) → n ≡ length streams → p ≡ parity_count scheme → p ≤ n → i < n
    → segment_length scheme (map (length {A = ℕ}) streams) ≡ c → AreParityShares scheme c streams shares
    → share ≡ take (parity_place n p i n * c) (slice_index_or shares i []) → IsParityShare scheme streams i share
share_is scheme n p c i streams shares share en ep few h len right is =
    let all : parity_place n p i n ≡ p = parity_all n p i h few in
    let of = shares_of scheme n p c streams shares en ep right in
    record {
      shares = shares;
      right = subst (λ t. AreParityShares scheme t streams shares) (sym len) right;
      own = is ∙ ap (λ t. take (t * c) (slice_index_or shares i [])) all ∙ take_all (p * c) (slice_index_or shares i []) (omega (arith, of.sizes i h));
    }

-- with a parity segment the scheme is one of the codes
pub coded : (scheme : Scheme) (p : ℕ) → p ≡ parity_count scheme → 1 ≤ p → (scheme ≢ Single) × (scheme ≢ Partner)
coded scheme p is some = (λ e. let none : parity_count scheme ≡ 0 = ap parity_count e in omega arith, λ e. let none : parity_count scheme ≡ 0 = ap parity_count e in omega arith)

-- where a member is lost some parity segment is there
pub some_parity : (members : List (Option Held)) (n p i : ℕ) → length members ≡ n → i < n → is_lost members i ≡ true → length (lost_places members) ≤ p → 1 ≤ p
some_parity members n p i count h gone few =
    let lost : length (lost_places members) ≡ rank (is_lost members) n = ap (rank (is_lost members)) count in
    omega (arith, (stands_at (is_lost members) n i h gone).within)
