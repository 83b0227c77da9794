-- The decimal form of a number is a key.
use Rattle.std.proofs.Common.{ℕ, ◌<◌, ◌^◌, decimal, arith}
use Rattle.std.proofs.lemmas.Fmt.{decimal_nonempty, length-decimal-le}
use Rattle.kvtree.specs.Entries.{IsKey}

pub decimal_is_key : (n : ℕ) → n < 2 ^ 32 → IsKey (decimal n)
decimal_is_key n fits = (decimal_nonempty n (omega arith), omega (arith, length-decimal-le 10 n (omega arith) (omega arith) (omega arith)))
