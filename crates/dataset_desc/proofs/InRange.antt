-- The ranges as tests, and as bounds.
use Rattle.std.proofs.Common.{◌≡◌, ℕ, ◌<◌, ◌≤◌, ◌*◌, ◌^◌, Bool, true, false, ◌&&◌, IsTrue, nat_le, refl, arith}
use Rattle.std.proofs.lemmas.Bool.{leb-true, le-leb}
use Rattle.scr_base.specs.declared.shape.Scheme.{Scheme}
use Rattle.scr_base.specs.declared.shape.Scheme.TheVariants.{Single, Partner, Xor, Rs}
use Rattle.scr_base.specs.Limits.{is_in, is_site, is_scheme}
use Rattle.scr_base.specs.declared.shape.DataId.{DataId}
use Rattle.dataset_desc.specs.Ranges.{is_number, is_size, is_desc}
use Rattle.dataset_desc.specs.Parts.{shares_of}

pub both_of : (a b : Bool) → IsTrue (a && b) → IsTrue a × IsTrue b
both_of true true h = (refl, refl)
both_of true false h = absurd cc
both_of false b h = absurd cc

pub both : (a b : Bool) → IsTrue a → IsTrue b → IsTrue (a && b)
both true true h k = refl
both true false h k = absurd cc
both false b h k = absurd cc

pub not_false : (b : Bool) → (b ≡ false → ⊥) → IsTrue b
not_false true never = refl
not_false false never = absurd (never refl)

pub in_bounds : (low high n : ℕ) → IsTrue (is_in low high n) → (low ≤ n) × (n ≤ high)
in_bounds low high n h =
    let two = both_of (nat_le low n) (nat_le n high) h in
    (leb-true low n two.0, leb-true n high two.1)

pub is_within : (low high n : ℕ) → low ≤ n → n ≤ high → IsTrue (is_in low high n)
is_within low high n h k = both (nat_le low n) (nat_le n high) (le-leb low n h) (le-leb n high k)

pub small_shares : (scheme : Scheme) → IsTrue (is_scheme scheme) → shares_of scheme < 2 ^ 32
small_shares Single h = omega arith
small_shares Partner h = omega arith
small_shares Xor h = omega arith
small_shares (Rs shares) h = let two = in_bounds 1 15 shares h in omega arith

pub record SiteBounds (nodes ranks : ℕ) : Type 0 where
  pub some_nodes : 1 ≤ nodes
  pub few_nodes : nodes ≤ 16
  pub some_ranks : 1 ≤ ranks
  pub few_ranks : ranks ≤ 8
  pub few : nodes * ranks ≤ 64

pub site_bounds : (nodes ranks : ℕ) → IsTrue (is_site nodes ranks 0) → SiteBounds nodes ranks
site_bounds nodes ranks h =
    let c = both_of (is_in 1 16 nodes && is_in 1 8 ranks && nat_le 0 16) (nat_le (nodes * ranks) 64) h in
    let b = both_of (is_in 1 16 nodes && is_in 1 8 ranks) (nat_le 0 16) c.0 in
    let a = both_of (is_in 1 16 nodes) (is_in 1 8 ranks) b.0 in
    let n = in_bounds 1 16 nodes a.0 in
    let r = in_bounds 1 8 ranks a.1 in
    record { some_nodes = n.0; few_nodes = n.1; some_ranks = r.0; few_ranks = r.1; few = leb-true (nodes * ranks) 64 c.1 }

pub is_site_within : (nodes ranks : ℕ) → SiteBounds nodes ranks → IsTrue (is_site nodes ranks 0)
is_site_within nodes ranks b =
    both (is_in 1 16 nodes && is_in 1 8 ranks && nat_le 0 16) (nat_le (nodes * ranks) 64)
    (both (is_in 1 16 nodes && is_in 1 8 ranks) (nat_le 0 16)
    (both (is_in 1 16 nodes) (is_in 1 8 ranks) (is_within 1 16 nodes b.some_nodes b.few_nodes) (is_within 1 8 ranks b.some_ranks b.few_ranks)) refl)
    (le-leb (nodes * ranks) 64 b.few)

-- the ranges of a description, one by one
pub record DescRanges (which : DataId) (nodes ranks : ℕ) (scheme : Scheme) (size : ℕ) : Type 0 where
  pub id : IsTrue (is_number which.id)
  pub run : IsTrue (is_number which.run)
  pub site : IsTrue (is_site nodes ranks 0)
  pub kind : IsTrue (is_scheme scheme)
  pub members : IsTrue (is_size size)

pub desc_ranges : (which : DataId) (nodes ranks : ℕ) (scheme : Scheme) (size : ℕ) → IsTrue (is_desc which nodes ranks scheme size) → DescRanges which nodes ranks scheme size
desc_ranges which nodes ranks scheme size h =
    let d = both_of (is_number which.id && is_number which.run && is_site nodes ranks 0 && is_scheme scheme) (is_size size) h in
    let c = both_of (is_number which.id && is_number which.run && is_site nodes ranks 0) (is_scheme scheme) d.0 in
    let b = both_of (is_number which.id && is_number which.run) (is_site nodes ranks 0) c.0 in
    let a = both_of (is_number which.id) (is_number which.run) b.0 in
    record { id = a.0; run = a.1; site = b.1; kind = c.1; members = d.1 }

pub is_desc_within : (which : DataId) (nodes ranks : ℕ) (scheme : Scheme) (size : ℕ) → DescRanges which nodes ranks scheme size → IsTrue (is_desc which nodes ranks scheme size)
is_desc_within which nodes ranks scheme size r =
    both (is_number which.id && is_number which.run && is_site nodes ranks 0 && is_scheme scheme) (is_size size)
    (both (is_number which.id && is_number which.run && is_site nodes ranks 0) (is_scheme scheme)
    (both (is_number which.id && is_number which.run) (is_site nodes ranks 0)
    (both (is_number which.id) (is_number which.run) r.id r.run) r.site) r.kind) r.members
