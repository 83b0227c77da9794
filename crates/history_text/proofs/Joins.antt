-- What was put at the end of a text in more than one step.
use Rattle.std.proofs.Common.{◌≡◌, ℕ, List, ◌++◌, refl, ap, sym, ◌∙◌, append_assoc}

-- what was put in two steps
pub in_two : (old mid new first rest whole : List ℕ) → mid ≡ old ++ first → new ≡ mid ++ rest → whole ≡ first ++ rest → new ≡ old ++ whole
in_two old mid new first rest whole m n w = n ∙ ap (λ (front : List ℕ). front ++ rest) m ∙ append_assoc old first rest ∙ ap (λ (tail : List ℕ). old ++ tail) (sym w)

-- what was put in four steps
pub in_four : (old a b c new w x y z whole : List ℕ) → a ≡ old ++ w → b ≡ a ++ x → c ≡ b ++ y → new ≡ c ++ z → whole ≡ w ++ (x ++ (y ++ z)) → new ≡ old ++ whole
in_four old a b c new w x y z whole p q r s e = in_two old a new w (x ++ (y ++ z)) whole p (in_two a b new x (y ++ z) (x ++ (y ++ z)) q (in_two b c new y z (y ++ z) r s refl) refl) e
