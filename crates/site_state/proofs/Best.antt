-- The newest checkpoint of a run is the machine's best: nothing is lost, so that every scheme bears it.
use Rattle.std.proofs.Common.{◌≡◌, ℕ, ◌+◌, ◌%◌, Bool, true, false, List, [], ◌∷◌, map, Option, Some, None, refl, ap, ◌∙◌, length, arith}
use Rattle.std.specs.Prelude.{not, ◌&&◌, filter, fold, option_map, slice_index, nat_lt, if◌then◌else◌}
use Rattle.std.specs.List.{list_all}
use Rattle.std.proofs.lemmas.List.{append-nil}
use Rattle.scr_base.specs.declared.shape.Scheme.{Scheme}
use Rattle.scr_base.specs.declared.shape.Scheme.TheVariants.{Single, Partner, Xor, Rs}
use Rattle.scr_base.specs.Sets.{bears_members, lost_members, nodes_of_group, numbers_below, group_count, is_among}
use Rattle.ckpt_model.specs.Dataset.{Dataset, bears, is_checkpoint, is_checkpoint_flag}
use Rattle.ckpt_model.specs.Machine.{Setup, Kept}
use Rattle.ckpt_model.specs.Loss.{lost_nodes, homeless_from}
use Rattle.ckpt_model.specs.Steps.{members_at}
use Rattle.ckpt_model.specs.Questions.{best, newest, newer}
use Rattle.site_state.specs.declared.cache.Cached.{Cached}
use Rattle.site_state.specs.declared.cache.Manifest.{Manifest}
use Rattle.site_state.specs.declared.run_state.RunState.{RunState}
use Rattle.site_state.specs.Shown.{Contents, running, setup_of, kept_of, set_of}
use Rattle.site_state.specs.Choosing.{newest_of, newer_with, later}

filter-none : {X : Type 0} (p : X → Bool) → ((x : X) → p x ≡ false) → (xs : List X) → filter p xs ≡ []
filter-none p never [] = refl
filter-none p never (x ∷ xs) = rw (never x) (filter-none p never xs)

filter-all : {X : Type 0} (p : X → Bool) → ((x : X) → p x ≡ true) → (xs : List X) → filter p xs ≡ xs
filter-all p all [] = refl
filter-all p all (x ∷ xs) = rw (all x, filter-all p all xs) refl

all-true : {X : Type 0} (p : X → Bool) → ((x : X) → p x ≡ true) → (xs : List X) → list_all p xs ≡ true
all-true p all [] = refl
all-true p all (x ∷ xs) = rw (all x) (all-true p all xs)

-- a set bears the loss of none
bears-none : (s : Scheme) (n : ℕ) → bears_members s n [] ≡ true
bears-none Single n = refl
bears-none Partner n = all-true (λ i. not (is_among i [] && is_among ((i + 1) % n) [])) (λ i. refl) (numbers_below n)
bears-none Xor n = refl
bears-none (Rs shares) n = grind arith

none-lost : (members : List ℕ) → lost_members members [] ≡ []
none-lost members = filter-none (λ k. is_among (slice_index members k) []) (λ k. refl) (numbers_below (length members))

pub bears_nothing_lost : (d : Dataset) → bears d [] ≡ true
bears_nothing_lost d = all-true (λ group. let members = nodes_of_group d.shape.nodes d.size group in bears_members d.scheme (length members) (lost_members members []))
    (λ group. let members = nodes_of_group d.shape.nodes d.size group in ap (bears_members d.scheme (length members)) (none-lost members) ∙ bears-none d.scheme (length members))
    (numbers_below (group_count d.shape.nodes d.size))

-- every member has a home
pub none_homeless : (places : List ℕ) (node : ℕ) → homeless_from node (members_at places) ≡ []
none_homeless [] node = refl
none_homeless (p ∷ places) node = none_homeless places (node + 1)

kept-borne : (s : Setup) (bytes : Contents) (places : List ℕ) (x : Cached) → bears (set_of s bytes x.manifest) (lost_nodes (kept_of s bytes places x)) ≡ true
kept-borne s bytes places x = ap (bears (set_of s bytes x.manifest)) (none_homeless places 0) ∙ bears_nothing_lost (set_of s bytes x.manifest)

all-borne : (s : Setup) (bytes : Contents) (places : List ℕ) (xs : List Cached) → map (λ (k : Kept). k.dataset) (filter (λ k. bears k.dataset (lost_nodes k)) (map (kept_of s bytes places) xs)) ≡ map (λ (x : Cached). set_of s bytes x.manifest) xs
all-borne s bytes places [] = refl
all-borne s bytes places (x ∷ xs) = rw (kept-borne s bytes places x, all-borne s bytes places xs) refl

later_is : (s : Setup) (bytes : Contents) (o : Option Manifest) (m : Manifest) → newer (option_map (set_of s bytes) o) (set_of s bytes m) ≡ option_map (set_of s bytes) (later o m)
later_is s bytes None m = refl
later_is s bytes (Some e) m = pick (nat_lt e.desc.which.id m.desc.which.id) where
  pick : (b : Bool) → (if b then Some (set_of s bytes m) else Some (set_of s bytes e)) ≡ option_map (set_of s bytes) (if b then Some m else Some e)
  pick true = refl
  pick false = refl

module _ (s : Setup) (bytes : Contents) (x : Cached) (xs : List Cached) (o : Option Manifest) where
  pick : fold newer (option_map (set_of s bytes) (later o x.manifest)) (filter is_checkpoint (map (λ (x : Cached). set_of s bytes x.manifest) xs)) ≡ option_map (set_of s bytes) (fold newer_with (later o x.manifest) xs)
      → fold newer (option_map (set_of s bytes) o) (filter is_checkpoint (map (λ (x : Cached). set_of s bytes x.manifest) xs)) ≡ option_map (set_of s bytes) (fold newer_with o xs)
      → (b : Bool) → fold newer (option_map (set_of s bytes) o) (if b then set_of s bytes x.manifest ∷ filter is_checkpoint (map (λ (x : Cached). set_of s bytes x.manifest) xs) else filter is_checkpoint (map (λ (x : Cached). set_of s bytes x.manifest) xs)) ≡ option_map (set_of s bytes) (fold newer_with (if b then later o x.manifest else o) xs)
  pick taken left true = ap (λ (p : Option Dataset). fold newer p (filter is_checkpoint (map (λ (x : Cached). set_of s bytes x.manifest) xs))) (later_is s bytes o x.manifest) ∙ taken
  pick taken left false = left

newest-with : (s : Setup) (bytes : Contents) (xs : List Cached) (o : Option Manifest) → fold newer (option_map (set_of s bytes) o) (filter is_checkpoint (map (λ (x : Cached). set_of s bytes x.manifest) xs)) ≡ option_map (set_of s bytes) (fold newer_with o xs)
newest-with s bytes [] o = refl
newest-with s bytes (x ∷ xs) o = pick s bytes x xs o (newest-with s bytes xs (later o x.manifest)) (newest-with s bytes xs o) (is_checkpoint_flag x.manifest.desc.flags)

pub best_is : (c : RunState) (bytes : Contents) → best (running bytes c) ≡ option_map (set_of (setup_of c) bytes) (newest_of c.kept)
best_is c bytes =
    ap (λ (ds : List Dataset). newest (filter is_checkpoint ds)) (append-nil _ ∙ all-borne (setup_of c) bytes c.places c.kept)
    ∙ newest-with (setup_of c) bytes c.kept None
