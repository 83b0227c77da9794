-- The sum of a column's first bytes, as a loop over the segments makes it.
use Rattle.std.proofs.Common.{◌≡◌, ◌≢◌, ℕ, zero, suc, ◌+◌, ◌<◌, ◌≤◌, List, [], ◌∷◌, length, get_or, set, take, slice_index, slice_index_or, add-one, refl, sym, ap, ◌∙◌, arith}
use Rattle.std.proofs.Math.ListN.{get_or-map}
use Rattle.std.proofs.lemmas.List.{get_or-set_same, get_or-set_other, length-map, length-set, take_all}
use Rattle.gf256.specs.Field.{add}
use Rattle.gf256.proofs.Linear.{add_assoc, add_comm, add_self, zero_add, add_zero}
use Rattle.lane_kernels.specs.Columns.{column_at}
use Rattle.xor_segments.specs.Column.{xor_of}

pub xor_of-take_suc : (bs : List ℕ) (i : ℕ) → i < length bs → xor_of (take (suc i) bs) ≡ add (xor_of (take i bs)) (get_or bs i 0)
unfolding xor_of
xor_of-take_suc [] i h = absurd (omega arith)
xor_of-take_suc (b ∷ bs) zero h = add_comm b 0
xor_of-take_suc (b ∷ bs) (suc i) h = ap (add b) (xor_of-take_suc bs i (omega arith)) ∙ sym (add_assoc b (xor_of (take i bs)) (get_or bs i 0))

pub xor_of-set : (bs : List ℕ) (i v : ℕ) → i < length bs → xor_of (set bs i v) ≡ add v (xor_of (set bs i 0))
unfolding xor_of
xor_of-set [] i v h = absurd (omega arith)
xor_of-set (b ∷ bs) zero v h = ap (add v) (sym (zero_add (xor_of bs)))
xor_of-set (b ∷ bs) (suc i) v h =
    ap (add b) (xor_of-set bs i v (omega arith)) ∙ sym (add_assoc b v (xor_of (set bs i 0)))
    ∙ ap (λ t. add t (xor_of (set bs i 0))) (add_comm b v) ∙ add_assoc v b (xor_of (set bs i 0))

-- the sum of the bytes at b of the first segments
unfoldable pub sum_below : List (List ℕ) → ℕ → ℕ → ℕ
sum_below segments b i = xor_of (take i (column_at segments b))

-- the same but for the segment at one place
unfoldable pub others_below : List (List ℕ) → ℕ → ℕ → ℕ → ℕ
others_below segments lost b i = xor_of (take i (set (column_at segments b) lost 0))

byte_at : (segments : List (List ℕ)) (b j : ℕ) → get_or (column_at segments b) j 0 ≡ slice_index (slice_index_or segments j []) b
byte_at segments b j = get_or-map (λ segment. slice_index segment b) segments j []

length-column : (segments : List (List ℕ)) (b : ℕ) → length (column_at segments b) ≡ length segments
length-column segments b = length-map segments (λ segment. slice_index segment b)

length-others : (segments : List (List ℕ)) (lost b : ℕ) → length (set (column_at segments b) lost 0) ≡ length segments
length-others segments lost b = length-set (column_at segments b) lost 0 ∙ length-column segments b

pub sum_below_none : (segments : List (List ℕ)) (b : ℕ) → sum_below segments b 0 ≡ 0
unfolding sum_below xor_of
sum_below_none segments b = refl

pub sum_below_step : (segments : List (List ℕ)) (b j : ℕ) → j < length segments
    → sum_below segments b (j + 1) ≡ add (sum_below segments b j) (slice_index (slice_index_or segments j []) b)
unfolding sum_below
sum_below_step segments b j h =
    rw add-one (xor_of-take_suc (column_at segments b) j (omega (arith, length-column segments b)) ∙ ap (add (sum_below segments b j)) (byte_at segments b j))

pub sum_below_all : (segments : List (List ℕ)) (b n v : ℕ) → v ≡ sum_below segments b n → length segments ≤ n → xor_of (v ∷ column_at segments b) ≡ 0
unfolding sum_below xor_of
sum_below_all segments b n v e h =
    ap (λ t. add t (xor_of (column_at segments b))) (e ∙ ap xor_of (take_all n (column_at segments b) (omega (arith, length-column segments b))))
    ∙ add_self (xor_of (column_at segments b))

pub others_below_none : (segments : List (List ℕ)) (lost b : ℕ) → others_below segments lost b 0 ≡ 0
unfolding others_below xor_of
others_below_none segments lost b = refl

pub others_below_step : (segments : List (List ℕ)) (lost b j : ℕ) → j < length segments → j ≢ lost
    → others_below segments lost b (j + 1) ≡ add (others_below segments lost b j) (slice_index (slice_index_or segments j []) b)
unfolding others_below
others_below_step segments lost b j h ne =
    rw add-one (xor_of-take_suc (set (column_at segments b) lost 0) j (omega (arith, length-others segments lost b))
    ∙ ap (add (others_below segments lost b j)) (get_or-set_other (column_at segments b) lost j 0 0 ne ∙ byte_at segments b j))

pub others_below_skip : (segments : List (List ℕ)) (lost b j : ℕ) → lost < length segments → j ≡ lost
    → others_below segments lost b (j + 1) ≡ others_below segments lost b j
unfolding others_below
others_below_skip segments lost b j h e =
    rw add-one (xor_of-take_suc (set (column_at segments b) lost 0) j (omega (arith, length-others segments lost b))
    ∙ ap (add (others_below segments lost b j))
    (ap (λ i. get_or (set (column_at segments b) lost 0) i 0) e ∙ get_or-set_same (column_at segments b) lost 0 0 (omega (arith, length-column segments b)))
    ∙ add_zero (others_below segments lost b j))

pub others_below_all : (segments : List (List ℕ)) (lost b n v : ℕ) → v ≡ others_below segments lost b n → length segments ≤ n → lost < length segments
    → xor_of (set (column_at segments b) lost v) ≡ 0
unfolding others_below
others_below_all segments lost b n v e all h =
    let others = set (column_at segments b) lost 0 in
    xor_of-set (column_at segments b) lost v (omega (arith, length-column segments b))
    ∙ ap (λ t. add t (xor_of others)) (e ∙ ap xor_of (take_all n others (omega (arith, length-others segments lost b))))
    ∙ add_self (xor_of others)

pub ruleset sum_steps = (sum_below_none, sum_below_step)

pub ruleset other_steps = (others_below_none, others_below_step, others_below_skip)
