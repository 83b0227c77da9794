-- The entries of the names so far, and those of one name more.
use Rattle.std.proofs.Common.{rules, Option, None, true, take, get_or, ◌≡◌, ◌⊎◌, inl, inr, ◌<◌, ◌≤◌, ◌+◌, ℕ, List, [], ◌∷◌, ◌++◌, Some, length, sym, ◌∙◌, ap, subst, arith, slice_get, decimal, codes}
use Rattle.std.specs.Prelude.{All, Contains, Result, Ok, Err, OnOk, IsSome}
use Rattle.std.proofs.lemmas.Option.{slice_get_within, slice_get-get_or, get_or_from_slice_get}
use Rattle.std.proofs.lemmas.List.Elements.{Contains-push, Contains-append_left, Contains-push_cases}
use Rattle.std.specs.Option.{option_map}
use Rattle.std.proofs.lemmas.List.{take_more, get_or-take, get_or_default, length-take, take_all}
use Rattle.node_device.specs.DeviceState.{DeviceState, IsDeviceName, IsUnchanged, IsAscending, IsSound}
use Rattle.node_device.specs.File.{bytes_of}
use Rattle.kvtree.proofs.Puts.{same_key}
use Rattle.prefix_index.specs.Names.{entry_name}
use Rattle.prefix_index.specs.Entries.{IsEntry, AreEntries}
use Rattle.prefix_index.specs.Listing.{IsMet, AreMet, PutsEntry}
use Rattle.prefix_index.specs.declared.entry.Entry.{Entry}
use Rattle.prefix_index.proofs.Ordered.{AreOfOne, ascending, from, kept, put_there}

all_at : {X : Type 0} (P : X → Type 0) (xs : List X) (k : ℕ) (x : X) → All P xs → slice_get xs k ≡ Some x → P x
all_at P xs k x all at = subst P (get_or_from_slice_get xs k x x at) (all k x (slice_get_within xs k x at))

all_of : {X : Type 0} (P : X → Type 0) (xs : List X) → ((k : ℕ) (x : X) → slice_get xs k ≡ Some x → P x) → All P xs
all_of P xs each = λ k d lt. each k _ (slice_get-get_or xs k d lt)

contains_at : {X : Type 0} (xs : List X) (k : ℕ) (x : X) → slice_get xs k ≡ Some x → Contains xs x
contains_at xs k x at = (k, slice_get_within xs k x at, get_or_from_slice_get xs k x x at)

at_of : {X : Type 0} (xs : List X) (x : X) → Contains xs x → (k : ℕ) × (slice_get xs k ≡ Some x)
at_of xs x c = (c.0, slice_get-get_or xs c.0 x c.1 ∙ ap Some c.2)

some_same : {A : Type 0} (x y : A) → Some x ≡ Some y → x ≡ y
some_same x y e = cc

one_name : (a b : Entry) → AreOfOne a b → entry_name a.desc.which ≡ entry_name b.desc.which
one_name a b same =
    ap (λ (i : ℕ). codes "x." ++ decimal i ++ 46 ∷ decimal a.desc.which.run) same.0
    ∙ ap (λ (r : ℕ). codes "x." ++ decimal b.desc.which.id ++ 46 ∷ decimal r) same.1

more_met : (d : DeviceState) (names : List (List ℕ)) (name : List ℕ) (m : Entry) → IsMet d names m → IsMet d (names ++ name ∷ []) m
more_met d names name m met = record { reads = met.reads; met = Contains-append_left names (name ∷ []) (entry_name m.desc.which) met.met }

-- a name under which no file is an entry
pub met_none : (d : DeviceState) (names : List (List ℕ)) (name : List ℕ) (entries : List Entry) → ((m : Entry) → IsEntry name (d.file name).now m → ⊥) → AreMet d names entries → AreMet d (names ++ name ∷ []) entries
met_none d names name entries none met = record {
  ascending = met.ascending;
  read = all_of (IsMet d (names ++ name ∷ [])) entries (λ k x at. more_met d names name x (all_at (IsMet d names) entries k x met.read at));
  every = λ other m known reads. pick other m (Contains-push_cases names name other known) reads;
}
  where
    pick : (other : List ℕ) (m : Entry) → Contains names other ⊎ (name ≡ other) → IsEntry other (d.file other).now m → Contains entries m
    pick other m (inl old) reads = met.every other m old reads
    pick other m (inr is) reads = absurd (none m (subst (λ (n : List ℕ). IsEntry n (d.file n).now m) (sym is) reads))

-- a name whose file is one
pub met_one : (d : DeviceState) (names : List (List ℕ)) (name : List ℕ) (entries after : List Entry) (m : Entry) → IsEntry name (d.file name).now m → ((x : Entry) → IsEntry name (d.file name).now x → Some m ≡ Some x)
    → ¬ Contains names name → PutsEntry entries m after → AreMet d names entries → AreMet d (names ++ name ∷ []) after
met_one d names name entries after m reads only fresh puts met = record {
  ascending = ascending entries after m met.ascending puts other_place;
  read = all_of (IsMet d (names ++ name ∷ [])) after (λ k x at. read-at k x (from entries puts.place m k x puts.is_place.within (ap (λ (ys : List Entry). slice_get ys k) (sym puts.put) ∙ at)));
  every = λ other x known its. pick other x (Contains-push_cases names name other known) its;
}
  where
    met-at : (k : ℕ) (x : Entry) → slice_get entries k ≡ Some x → IsMet d names x
    met-at k x at = all_at (IsMet d names) entries k x met.read at

    other_place : (i : ℕ) (a : Entry) → slice_get entries i ≡ Some a → ¬ AreOfOne a m
    other_place i a at same = fresh (subst (Contains names) (one_name a m same ∙ sym reads.named) (met-at i a at).met)

    own : IsMet d (names ++ name ∷ []) m
    own = record {
      reads = subst (λ (n : List ℕ). IsEntry n (d.file n).now m) reads.named reads;
      met = subst (Contains (names ++ name ∷ [])) reads.named (Contains-push names name);
    }

    read-at : (k : ℕ) (x : Entry) → (m ≡ x) ⊎ ((j : ℕ) × (slice_get entries j ≡ Some x)) → IsMet d (names ++ name ∷ []) x
    read-at k x (inl is) = subst (IsMet d (names ++ name ∷ [])) is own
    read-at k x (inr old) = more_met d names name x (met-at old.0 x old.1)

    there : (x : Entry) → (k : ℕ) × (slice_get (Rattle.std.specs.Prelude.insert entries puts.place m) k ≡ Some x) → Contains after x
    there x at = contains_at after at.0 x (ap (λ (ys : List Entry). slice_get ys at.0) puts.put ∙ at.1)

    pick : (other : List ℕ) (x : Entry) → Contains names other ⊎ (name ≡ other) → IsEntry other (d.file other).now x → Contains after x
    pick other x (inl old) its =
        let k = at_of entries x (met.every other x old its) in
        there x (kept entries puts.place m k.0 x k.1)
    pick other x (inr is) its =
        let same = some_same m x (only x (subst (λ (n : List ℕ). IsEntry n (d.file n).now x) (sym is) its)) in
        there x (puts.place, put_there entries puts.place m puts.is_place.within ∙ ap Some same)

pub on_ok : {T E : Type 0} (P Q : Type 0) (r : Result T E) → (P → Q) → OnOk r P → OnOk r Q
on_ok P Q (Ok x) f p = f p
on_ok P Q (Err e) f p = tt

-- ## From name to name

-- a device whose faults stay is as it was
pub unchanged : (old new : DeviceState) → IsUnchanged old new → new.faults ≡ old.faults → new ≡ old
unchanged old new is same = is ∙ ap (λ (f : ℕ). let d : DeviceState = record old { faults = f } in d) same

pub none_met : (d : DeviceState) (names : List (List ℕ)) (entries : List Entry) → entries ≡ [] → AreMet d (take 0 names) entries
none_met d names entries is = subst (AreMet d (take 0 names)) (sym is) (record {
  ascending = λ i j a b lt ia jb. absurd (cc ia);
  read = λ k x lt. absurd (omega (arith, lt));
  every = λ name m known reads. absurd (omega (arith, known.1, length-take 0 names));
})

-- a name stands once among ascending ones
fresh : (names : List (List ℕ)) (k : ℕ) → IsAscending names → k < length names → ¬ Contains (take k names) (get_or names k [])
fresh names k ascend lt known =
    let before : known.0 < k = omega (arith, known.1, length-take k names) in
    let same = sym (get_or-take k names known.0 (get_or names k []) before) ∙ known.2 in
    let less = ascend known.0 k before lt in
    absurd (cc (less, same_key (get_or names k []), get_or_default names known.0 (get_or names k []) [] (omega (arith, before, lt)), same))

abbrev pub Takes : DeviceState → List ℕ → List Entry → List Entry → Type 0
Takes d name before after = d.tells ≡ true → (names : List (List ℕ)) → ¬ Contains names name → AreMet d names before → AreMet d (names ++ name ∷ []) after

-- a file's name is one that a device may have
pub device_named : (d : DeviceState) (name : List ℕ) (k : ℕ) → IsSound d → k < length d.names → name ≡ get_or d.names k [] → IsDeviceName name
device_named d name k sound lt is = sound.named name ((sound.listed name).0 (k, lt, get_or_default d.names k name [] lt ∙ sym is))

pub next_met : (d s : DeviceState) (name : List ℕ) (before after : List Entry) (k : ℕ) → s ≡ d → d.tells ≡ true → IsAscending d.names → k < length d.names → name ≡ get_or d.names k [] → AreMet d (take k d.names) before → Takes s name before after
    → AreMet d (take (k + 1) d.names) after
next_met d s name before after k same tells ascend lt is met takes =
    subst (λ (names : List (List ℕ)). AreMet d names after) (ap (λ (n : List ℕ). take k d.names ++ n ∷ []) is ∙ sym (take_more d.names k [] lt))
    (subst (λ (x : DeviceState). Takes x name before after) same takes tells (take k d.names) (subst (λ (n : List ℕ). ¬ Contains (take k d.names) n) (sym is) (fresh d.names k ascend lt)) met)

-- ## All names

pub all_met : (d : DeviceState) (k : ℕ) (entries : List Entry) → IsSound d → d.tells ≡ true → length d.names ≤ k → AreMet d (take k d.names) entries → AreEntries d entries
all_met d k entries sound tells end met = record {
  ascending = met.ascending;
  read = all_of _ entries (λ i x at. (all_at (IsMet d (take k d.names)) entries i x met.read at).reads);
  every = λ name m reads. met.every name m (subst (λ (names : List (List ℕ)). Contains names name) (sym (take_all k d.names end)) (known name m reads)) reads;
}
  where
    some : (o : Option (List ℕ)) → 16 ≤ length (bytes_of o) → IsSome (option_map length o)
    some None long = absurd (omega (arith, long))
    some (Some bytes) long = search rules

    known : (name : List ℕ) (m : Entry) → IsEntry name (d.file name).now m → Contains d.names name
    known name m reads = (sound.listed name).1 (subst IsSome (sym (sound.lengths tells name)) (some (d.file name).now (omega (arith, reads.body.whole))))
