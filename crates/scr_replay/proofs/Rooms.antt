-- Room for datasets, over the items of a script.
use Rattle.std.proofs.Common.{◌≡◌, ℕ, ◌<◌, ◌+◌, ◌-◌, ◌++◌, drop, count_by, ap, ◌∙◌, ◌&&◌, ◌||◌, not, nat_lt, Bool, true, false, List, [], ◌∷◌, length, get_or, refl, sym, arith}
use Rattle.std.specs.Prelude.{if◌then◌else◌}
use Rattle.std.proofs.lemmas.List.{at_drop_more}
use Rattle.std.proofs.lemmas.List.Sums.{sum_by-cons}
use Rattle.std.proofs.Math.Bool.{cond, and_assoc}
use Rattle.scr_base.specs.declared.content.Step.{Step}
use Rattle.script_reader.specs.declared.script.Item.{Item}
use Rattle.scr_replay.specs.Forms.{is_start, is_kept, room_after, has_room, first_steps_of, first_steps}

-- how many are kept, by the first step and the rest
counted : (x : Step) (xs : List Step) → count_by is_kept (x ∷ xs) ≡ cond (is_kept x) 1 0 + count_by is_kept xs
counted x xs = sum_by-cons (λ y. cond (is_kept y) 1 0) x xs

one_less : (room after n m : ℕ) → after ≡ room - 1 → m ≡ 1 + n → after - n ≡ room - m
one_less room after n m less more = omega (arith, less, more)

as_many : (room after n m : ℕ) → after ≡ room → m ≡ 0 + n → after - n ≡ room - m
as_many room after n m same more = omega (arith, same, more)

room_counted : (room : ℕ) (x : Step) (xs : List Step) → room_after room x - count_by is_kept xs ≡ room - count_by is_kept (x ∷ xs)
room_counted room x xs = by_test (is_kept x) refl
  where
    by_test : (t : Bool) → is_kept x ≡ t → room_after room x - count_by is_kept xs ≡ room - count_by is_kept (x ∷ xs)
    by_test true e =
        one_less room (room_after room x) (count_by is_kept xs) (count_by is_kept (x ∷ xs))
        (ap (λ (b : Bool). if b then room - 1 else room) e) (counted x xs ∙ ap (λ (b : Bool). cond b 1 0 + count_by is_kept xs) e)
    by_test false e =
        as_many room (room_after room x) (count_by is_kept xs) (count_by is_kept (x ∷ xs))
        (ap (λ (b : Bool). if b then room - 1 else room) e) (counted x xs ∙ ap (λ (b : Bool). cond b 1 0 + count_by is_kept xs) e)

-- room for one part and then for another
room_append : (room : ℕ) (xs ys : List Step) → has_room room (xs ++ ys) ≡ (has_room room xs && has_room (room - count_by is_kept xs) ys)
room_append room [] ys = ap (λ (left : ℕ). has_room left ys) (omega arith)
room_append room (x ∷ xs) ys =
    let fits = not (is_start x) || nat_lt 0 room in
    ap (λ (b : Bool). fits && b) (room_append (room_after room x) xs ys)
    ∙ sym (and_assoc fits (has_room (room_after room x) xs) (has_room (room_after room x - count_by is_kept xs) ys))
    ∙ ap (λ (left : ℕ). (fits && has_room (room_after room x) xs) && has_room left ys) (room_counted room x xs)

-- room for the steps of one item and then for those of the rest
room_at : (room : ℕ) (items : List Item) (i : ℕ) (x : Item) (steps : List Step) → i < length items → x ≡ get_or items i x → steps ≡ first_steps_of x
    → has_room room (first_steps (drop i items)) ≡ (has_room room steps && has_room (room - count_by is_kept steps) (first_steps (drop (i + 1) items)))
room_at room items i x steps within read is =
    at_drop_more (λ (xs : List Item). has_room room (first_steps xs)) items i x within
    ∙ ap (λ (y : Item). has_room room (first_steps_of y ++ first_steps (drop (i + 1) items))) (sym read)
    ∙ ap (λ (s : List Step). has_room room (s ++ first_steps (drop (i + 1) items))) (sym is)
    ∙ room_append room steps (first_steps (drop (i + 1) items))

-- one item has no room
pub lacks_room : (room : ℕ) (items : List Item) (i : ℕ) (x : Item) (steps : List Step) → i < length items → x ≡ get_or items i x → steps ≡ first_steps_of x
    → has_room room steps ≡ false → has_room room (first_steps (drop i items)) ≡ false
lacks_room room items i x steps within read is none =
    room_at room items i x steps within read is ∙ ap (λ (b : Bool). b && has_room (room - count_by is_kept steps) (first_steps (drop (i + 1) items))) none

-- one item has room, and the rest is left
pub rest_room : (room left : ℕ) (items : List Item) (i : ℕ) (x : Item) (steps : List Step) → i < length items → x ≡ get_or items i x → steps ≡ first_steps_of x
    → has_room room steps ≡ true → left ≡ room - count_by is_kept steps → has_room left (first_steps (drop (i + 1) items)) ≡ has_room room (first_steps (drop i items))
rest_room room left items i x steps within read is some less =
    ap (λ (n : ℕ). has_room n (first_steps (drop (i + 1) items))) less
    ∙ sym (room_at room items i x steps within read is ∙ ap (λ (b : Bool). b && has_room (room - count_by is_kept steps) (first_steps (drop (i + 1) items))) some)
