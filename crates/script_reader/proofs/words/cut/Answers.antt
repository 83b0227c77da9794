use Rattle.std.proofs.Common.{◌≡◌, ℕ, List, take, drop, ◌==◌, refl, sym}
use Rattle.std.proofs.lemmas.List.{drop-drop}
use Rattle.std.specs.Prelude.{Some, position}
use Rattle.script_reader.specs.Words.{cut_at}
use Rattle.script_reader.proofs.words.cut.Goals as goal

parts_at : (byte : ℕ) (text a b rest : List ℕ) (place : ℕ) → position (λ x. x == byte) text ≡ Some place → a ≡ take place text → rest ≡ drop place text → b ≡ drop 1 rest
    → Some (a, b) ≡ cut_at byte text
unfolding cut_at
parts_at byte text a b rest place found p q r = rw (found, p, r, q, drop-drop 1 place text) refl

pub returns : goal.returns
returns c =
    parts_at c.args.byte c.args.text.now _ _ _ c.in_ok-place.place (sym c.in_ok-place.ensures) c.split_at.ensures.front c.split_at.ensures.back c.split_at-2.ensures.back
