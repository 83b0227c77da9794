-- The draws of a linear congruential source.
use Rattle.std.specs.Prelude.{ℕ, zero, suc, ◌+◌, ◌*◌, ◌/◌, ◌%◌}

-- the state that a draw leaves
abbrev pub next : ℕ → ℕ
next x = (x * 1103515245 + 12345) % 2147483648

-- the state after n draws
unfoldable pub after : ℕ → ℕ → ℕ
after zero x = x
after (suc n) x = next (after n x)

-- the n-th draw from a state, below m
abbrev pub draw : ℕ → ℕ → ℕ → ℕ
draw n m x = (after n x / 65536) % m
