-- The words that the program accepts.
use Rattle.std.specs.Prelude.{ℕ, ◌≡◌, ◌∷◌, [], List, codes}

-- the one list of words that is accepted
abbrev pub IsRun : List (List ℕ) → Type 0
IsRun words = words ≡ codes "run" ∷ []
