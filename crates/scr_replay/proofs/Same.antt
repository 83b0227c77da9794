-- The one word of a list.
use Rattle.std.proofs.Common.{◌≡◌, ℕ, ◌<◌, ◌≤◌, List, [], ◌∷◌, length, get_or, sym, ap, arith, Bool, true, ◌∙◌}
use Rattle.std.specs.Bool.{Decides}

-- a list of one item
pub one_item : {X : Type 0} (items : List X) (x : X) → 1 ≤ length items → length items < 2 → x ≡ get_or items 0 x → items ≡ x ∷ []
one_item [] x some few is = absurd (omega arith)
one_item {X} (y ∷ []) x some few is = ap (λ (z : X). z ∷ []) (sym is)
one_item (y ∷ (z ∷ zs)) x some few is = absurd (omega arith)

-- a test of the one word tells what the list is
pub one_decided : (words : List (List ℕ)) (word want : List ℕ) (flag : Bool) → words ≡ word ∷ [] → Decides flag (word ≡ want) → (flag ≡ true → words ≡ want ∷ []) × (words ≡ want ∷ [] → flag ≡ true)
one_decided words word want flag is decided = (λ yes. is ∙ ap (λ (w : List ℕ). w ∷ []) (decided.0 yes), λ same. let heads : word ∷ [] ≡ want ∷ [] = sym is ∙ same in let head : word ≡ want = cc in decided.1 head)
