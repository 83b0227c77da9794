-- How long the names of a member's files are.
use Rattle.std.proofs.Common.{inl, inr, ◌<◌, ◌≤◌, ◌^◌, ℕ, List, ◌∷◌, ◌++◌, length, sym, subst, arith, codes, length-append}
use Rattle.std.specs.Prelude.{decimal}
use Rattle.std.proofs.lemmas.Fmt.{length-decimal-le}
use Rattle.scr_base.specs.declared.shape.DataId.{DataId}
use Rattle.node_device.specs.DeviceState.{IsDeviceName}
use Rattle.member_store.specs.Names.{member_stem, part_mark, IsPlace, IsPart, IsNameOf}
use Rattle.member_store.specs.declared.part.Part.{Part}
use Rattle.member_store.specs.declared.part.Part.TheVariants.{File, Share}

number_short : (n : ℕ) → n < 2 ^ 32 → length (decimal n) ≤ 10
number_short n lt = length-decimal-le 10 n (omega arith) (omega (arith, lt)) (omega (arith, lt))

three_short : (a b c : List ℕ) → length a ≤ 10 → length b ≤ 10 → length c ≤ 10 → length (a ++ 46 ∷ b ++ 46 ∷ c) ≤ 32
three_short a b c la lb lc = omega (arith, la, lb, lc, length-append (a ++ 46 ∷ b) (46 ∷ c), length-append a (46 ∷ b))

stem_short : (which : DataId) (node : ℕ) → IsPlace which node → (0 < length (member_stem which node)) × (length (member_stem which node) ≤ 34)
stem_short which node place =
    let small : node < 2 ^ 8 = place.small in
    let short = three_short (decimal which.id) (decimal which.run) (decimal node) (number_short which.id place.id) (number_short which.run place.run) (number_short node (omega (arith, small))) in
    (omega arith, omega (arith, short))

mark_short : (part : Part) → IsPart part → length (part_mark part) ≤ 23
mark_short (File local file) fits =
    let l = number_short local (let lt : local < 2 ^ 8 = fits.0 in omega (arith, lt)) in
    let f = number_short file (let lt : file < 2 ^ 8 = fits.1 in omega (arith, lt)) in
    omega (arith, l, f, length-append (codes "f." ++ decimal local) (46 ∷ decimal file), length-append (codes "f.") (decimal local))
mark_short (Share local) fits =
    let l = number_short local (let lt : local < 2 ^ 8 = fits in omega (arith, lt)) in
    omega (arith, l, length-append (codes "p.") (decimal local))

-- each of them is a name that a device takes
pub device_named : (which : DataId) (node : ℕ) → IsPlace which node → (name : List ℕ) → IsNameOf which node name → IsDeviceName name
device_named which node place name (inl is) =
    let stem = stem_short which node place in
    let more = length-append (member_stem which node) (codes ".m") in
    subst IsDeviceName (sym is) (omega (arith, stem.0, more), omega (arith, stem.1, more))
device_named which node place name (inr part) =
    let stem = stem_short which node place in
    let mark = mark_short part.0 part.1 in
    let more = length-append (member_stem which node) (46 ∷ part_mark part.0) in
    subst IsDeviceName (sym part.2) (omega (arith, stem.0, more), omega (arith, stem.1, mark, more))
