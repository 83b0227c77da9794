-- What goes out piece by piece goes out whole.
use Rattle.std.proofs.Common.{◌≡◌, ℕ, ◌+◌, List, ◌++◌, take, drop, Option, Some, None, option_map, sym, ap, ◌∙◌, append_assoc, length, ◌-◌, arith, length-drop, take_all}
use Rattle.std.proofs.Math.Seq.{take-add}
use Rattle.std.proofs.lemmas.List.{take-append-drop}
use Rattle.scr_base.specs.Streams.{Joins}
use Rattle.scr_replay.specs.Outputs.{JoinsFront}

-- what is behind a place, as a range
pub behind : (bytes : List ℕ) (i : ℕ) → take (length bytes - i) (drop i bytes) ≡ drop i bytes
behind bytes i = take_all (length bytes - i) (drop i bytes) (omega (arith, length-drop i bytes))

-- one piece, and the next one behind it
pub joins_more : (first mid last : Option (List ℕ)) (bytes : List ℕ) (i n : ℕ) → Joins first mid (take i bytes) → Joins mid last (take n (drop i bytes)) → Joins first last (take (i + n) bytes)
joins_more None mid last bytes i n one two = two ∙ ap (option_map (λ (held : List ℕ). held ++ take n (drop i bytes))) one
joins_more (Some held) mid last bytes i n one two =
    two
    ∙ ap (option_map (λ (h : List ℕ). h ++ take n (drop i bytes))) one
    ∙ ap (λ (h : List ℕ). Some h) (append_assoc held (take i bytes) (take n (drop i bytes)) ∙ ap (λ (b : List ℕ). held ++ b) (sym (take-add i n bytes)))

-- a fault behind a piece leaves that front
pub front_joined : (first mid last : Option (List ℕ)) (bytes : List ℕ) (i : ℕ) → Joins first mid (take i bytes) → last ≡ mid → JoinsFront first last bytes
front_joined first mid last bytes i one stays = (take i bytes, drop i bytes, take-append-drop i bytes, stays ∙ one)
