-- Changes of a file, one after another.
use Rattle.std.proofs.Common.{◌≡◌, ◌⊎◌, inl, inr, ◌<◌, ◌≤◌, ◌+◌, ◌-◌, ◌&&◌, ◌||◌, ℕ, zero, suc, Bool, true, false, cond, List, [], ◌∷◌, ◌++◌, length, take, replicate, get_or, slice_index, nat_le, nat_lt, if◌then◌else◌, refl, sym, ◌∙◌, ap, arith, Result, Ok, Err, OnErr}
use Rattle.std.proofs.lemmas.List.{take_more}
use Rattle.node_device.specs.declared.changes.Change.{Change}
use Rattle.node_device.specs.declared.changes.Changes.{Changes}
use Rattle.node_device.specs.Changes.{wrote, one_wrote, byte_before, byte_before_all, is_written, older_byte}

pub on_err : {T E P : Type 0} (r : Result T E) → P → OnErr r P
on_err (Ok x) p = tt
on_err (Err e) p = p

pub below_or_not : (k n : ℕ) → (k < n) ⊎ (n ≤ k)
below_or_not k n = grind arith

in_range_or_not : (at end k : ℕ) → ((at ≤ k) × (k < end)) ⊎ ((k < at) ⊎ (end ≤ k))
in_range_or_not at end k = grind arith

pub lt_true : (k n : ℕ) → k < n → nat_lt k n ≡ true
lt_true k n lt = grind arith

pub lt_false : (k n : ℕ) → n ≤ k → nat_lt k n ≡ false
lt_false k n le = grind arith

pub in_range : (at end k : ℕ) → at ≤ k → k < end → (nat_le at k && nat_lt k end) ≡ true
in_range at end k le lt = grind arith

pub out_of_range : (at end k : ℕ) → (k < at) ⊎ (end ≤ k) → (nat_le at k && nat_lt k end) ≡ false
out_of_range at end k (inl lt) = grind arith
out_of_range at end k (inr le) = grind arith

or_true : (b : Bool) → (b || true) ≡ true
or_true true = refl
or_true false = refl

or_false : (b : Bool) → (b || false) ≡ b
or_false true = refl
or_false false = refl

wrote_last : (cs : List Change) (c : Change) (k : ℕ) → wrote c k ≡ true → one_wrote (cs ++ c ∷ []) k ≡ true
wrote_last [] c k w = ap (λ b. b || false) w
wrote_last (x ∷ cs) c k w = ap (λ b. wrote x k || b) (wrote_last cs c k w) ∙ or_true (wrote x k)

wrote_before : (cs : List Change) (c : Change) (k : ℕ) → wrote c k ≡ false → one_wrote (cs ++ c ∷ []) k ≡ one_wrote cs k
wrote_before [] c k w = ap (λ b. b || false) w
wrote_before (x ∷ cs) c k w = ap (λ b. wrote x k || b) (wrote_before cs c k w)

before-snoc : (cs : List Change) (c : Change) (k byte : ℕ) → byte_before_all (cs ++ c ∷ []) k byte ≡ byte_before_all cs k (byte_before c k byte)
before-snoc [] c k byte = refl
before-snoc (x ∷ cs) c k byte = ap (λ (b : ℕ). byte_before x k b) (before-snoc cs c k byte)

-- one more change behind the others
module _ (cs new : List Change) (c : Change) (is : new ≡ cs ++ c ∷ []) (k : ℕ) where
  pub noted_inside : c.at ≤ k → k < c.end → one_wrote new k ≡ true
  noted_inside le lt = ap (λ l. one_wrote l k) is ∙ wrote_last cs c k (in_range c.at c.end k le lt)

  pub noted_outside : (k < c.at) ⊎ (c.end ≤ k) → one_wrote new k ≡ one_wrote cs k
  noted_outside out = ap (λ l. one_wrote l k) is ∙ wrote_before cs c k (out_of_range c.at c.end k out)

  pub noted_kept : (byte old : ℕ) → c.at ≤ k → k < c.at + length c.old.items → slice_index c.old.items (k - c.at) ≡ old → byte_before_all new k byte ≡ byte_before_all cs k old
  noted_kept byte old le lt same = ap (λ l. byte_before_all l k byte) is ∙ before-snoc cs c k byte
      ∙ ap (λ b. byte_before_all cs k (cond b (slice_index c.old.items (k - c.at)) byte)) (in_range c.at (c.at + length c.old.items) k le lt) ∙ ap (λ (b : ℕ). byte_before_all cs k b) same

  pub noted_others : (byte : ℕ) → (k < c.at) ⊎ (c.at + length c.old.items ≤ k) → byte_before_all new k byte ≡ byte_before_all cs k byte
  noted_others byte out = ap (λ l. byte_before_all l k byte) is ∙ before-snoc cs c k byte
      ∙ ap (λ b. byte_before_all cs k (cond b (slice_index c.old.items (k - c.at)) byte)) (out_of_range c.at (c.at + length c.old.items) k out)

front_more : (cs : List Change) (m n : ℕ) (c : Change) → m < length cs → c ≡ get_or cs m c → n ≡ m + 1 → take n cs ≡ take m cs ++ c ∷ []
front_more cs m n c lt is next = ap (λ (j : ℕ). take j cs) next ∙ take_more cs m c lt ∙ ap (λ (x : Change). take m cs ++ x ∷ []) (sym is)

-- one change more is put back
pub put_back_more : (cs : List Change) (m n : ℕ) (c : Change) (k byte after : ℕ) → m < length cs → c ≡ get_or cs m c → n ≡ m + 1 → after ≡ byte_before c k byte → byte_before_all (take m cs) k after ≡ byte_before_all (take n cs) k byte
put_back_more cs m n c k byte after lt is next same =
    ap (λ (b : ℕ). byte_before_all (take m cs) k b) same ∙ sym (ap (λ l. byte_before_all l k byte) (front_more cs m n c lt is next) ∙ before-snoc (take m cs) c k byte)

one_more : (cs : List Change) (c : Change) (k : ℕ) (b : Bool) → wrote c k ≡ b → one_wrote (cs ++ c ∷ []) k ≡ (if b then true else one_wrote cs k)
one_more cs c k true w = wrote_last cs c k w
one_more cs c k false w = wrote_before cs c k w

twice : (b d : Bool) (x y : ℕ) → cond b x (cond d x y) ≡ cond (cond b true d) x y
twice true d x y = refl
twice false d x y = refl

-- one change more is scrambled
pub scrambled_more : (cs : List Change) (m : ℕ) (c : Change) (k old now after : ℕ) → m < length cs → c ≡ get_or cs m c → now ≡ (if one_wrote (take m cs) k then 0xA5 else old)
    → after ≡ (if wrote c k then 0xA5 else now) → after ≡ (if one_wrote (take (m + 1) cs) k then 0xA5 else old)
scrambled_more cs m c k old now after lt is before same =
    same ∙ ap (λ (n : ℕ). cond (wrote c k) 0xA5 n) before ∙ twice (wrote c k) (one_wrote (take m cs) k) 0xA5 old
    ∙ sym (ap (λ b. cond b 0xA5 old) (ap (λ l. one_wrote l k) (front_more cs m (m + 1) c lt is refl) ∙ one_more (take m cs) c k (wrote c k) refl))

module _ (ch : Changes) (k : ℕ) where
  pub is_written-first : k < 8 → is_written ch k ≡ (get_or ch.first_written k false || one_wrote ch.rest.items k)
  unfolding is_written
  is_written-first lt = ap (λ b. cond b (get_or ch.first_written k false || one_wrote ch.rest.items k) (one_wrote ch.rest.items k)) (lt_true k 8 lt)

  pub is_written-rest : 8 ≤ k → is_written ch k ≡ one_wrote ch.rest.items k
  unfolding is_written
  is_written-rest le = ap (λ b. cond b (get_or ch.first_written k false || one_wrote ch.rest.items k) (one_wrote ch.rest.items k)) (lt_false k 8 le)

  pub older_byte-first : (byte : ℕ) → k < 8 → older_byte ch k byte ≡ slice_index ch.first k
  unfolding older_byte
  older_byte-first byte lt = ap (λ b. cond b (slice_index ch.first k) (byte_before_all ch.rest.items k byte)) (lt_true k 8 lt)

  pub older_byte-rest : (byte : ℕ) → 8 ≤ k → older_byte ch k byte ≡ byte_before_all ch.rest.items k byte
  unfolding older_byte
  older_byte-rest byte le = ap (λ b. cond b (slice_index ch.first k) (byte_before_all ch.rest.items k byte)) (lt_false k 8 le)

-- two that say the same of a place
pub same_written : (a b : Changes) (k : ℕ) → (k < 8 → get_or a.first_written k false ≡ get_or b.first_written k false) → one_wrote a.rest.items k ≡ one_wrote b.rest.items k → is_written a k ≡ is_written b k
same_written a b k first rest = elim (below_or_not k 8) [
  | inl lt ↦ is_written-first a k lt ∙ ap (λ x. x || one_wrote a.rest.items k) (first lt) ∙ ap (λ x. get_or b.first_written k false || x) rest ∙ sym (is_written-first b k lt)
  | inr le ↦ is_written-rest a k le ∙ rest ∙ sym (is_written-rest b k le)
]

pub same_older : (a b : Changes) (k x y : ℕ) → (k < 8 → slice_index a.first k ≡ slice_index b.first k) → (8 ≤ k → byte_before_all a.rest.items k x ≡ byte_before_all b.rest.items k y) → older_byte a k x ≡ older_byte b k y
same_older a b k x y first rest = elim (below_or_not k 8) [
  | inl lt ↦ older_byte-first a k x lt ∙ first lt ∙ sym (older_byte-first b k y lt)
  | inr le ↦ older_byte-rest a k x le ∙ rest le ∙ sym (older_byte-rest b k y le)
]

pub now_written : (ch : Changes) (k : ℕ) → (k < 8 → get_or ch.first_written k false ≡ true) → (8 ≤ k → one_wrote ch.rest.items k ≡ true) → is_written ch k ≡ true
now_written ch k first rest = elim (below_or_not k 8) [
  | inl lt ↦ is_written-first ch k lt ∙ ap (λ x. x || one_wrote ch.rest.items k) (first lt)
  | inr le ↦ is_written-rest ch k le ∙ rest le
]

pub none_written : (ch : Changes) (k : ℕ) → (k < 8 → get_or ch.first_written k false ≡ false) → ch.rest.items ≡ [] → is_written ch k ≡ false
none_written ch k first none = elim (below_or_not k 8) [
  | inl lt ↦ is_written-first ch k lt ∙ ap (λ x. x || one_wrote ch.rest.items k) (first lt) ∙ ap (λ l. one_wrote l k) none
  | inr le ↦ is_written-rest ch k le ∙ ap (λ l. one_wrote l k) none
]

falses : (n k : ℕ) → get_or (replicate n false) k false ≡ false
falses zero k = refl
falses (suc n) zero = refl
falses (suc n) (suc k) = falses n k

pub none_first : (k : ℕ) → get_or (false ∷ false ∷ false ∷ false ∷ false ∷ false ∷ false ∷ false ∷ []) k false ≡ false
none_first k = falses 8 k

one_of : (first rest : Bool) (old : ℕ) → (if first then 0xA5 else (if rest then 0xA5 else old)) ≡ (if first || rest then 0xA5 else old)
one_of true rest old = refl
one_of false rest old = refl

-- the byte that a scramble leaves
pub scrambled_byte : (ch : Changes) (k old now after : ℕ) → now ≡ (if one_wrote ch.rest.items k then 0xA5 else old) → (k < 8 → after ≡ (if get_or ch.first_written k false then 0xA5 else now)) → (8 ≤ k → after ≡ now)
    → after ≡ (if is_written ch k then 0xA5 else old)
scrambled_byte ch k old now after rest first behind = elim (below_or_not k 8) [
  | inl lt ↦ first lt ∙ ap (λ (n : ℕ). cond (get_or ch.first_written k false) 0xA5 n) rest ∙ one_of (get_or ch.first_written k false) (one_wrote ch.rest.items k) old ∙ sym (ap (λ b. cond b 0xA5 old) (is_written-first ch k lt))
  | inr le ↦ behind le ∙ rest ∙ sym (ap (λ b. cond b 0xA5 old) (is_written-rest ch k le))
]
