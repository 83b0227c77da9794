-- The entries of the memory device, by ascending name.
use Rattle.std.specs.Prelude.{◌≡◌, ◌<◌, ◌≤◌, ◌⊎◌, ◌||◌, ◌==◌, not, ℕ, Bool, true, List, [], ◌∷◌, length, map, get_or, sum_by, vec_len, if◌then◌else◌}
use Rattle.std.specs.Str.{bytes_eq}
use Rattle.node_device.specs.File.{File, IsAtRest, MayLeave, no_file}
use Rattle.node_device.specs.Held.{left_by, there_left}
use Rattle.node_device.specs.Entry.{entry_file, entry_name}
use Rattle.node_device.specs.declared.entry.Entry.{Entry}
use Rattle.node_device.specs.declared.outcome.Outcome.{Outcome}
use Rattle.node_device.specs.declared.outcome.Outcome.TheVariants.{AsRead, AsStable, Scrambled}

abbrev pub file_at : List Entry → List ℕ → File
file_at [] q = no_file
file_at (e ∷ es) q = if bytes_eq (entry_name e) q then entry_file e else file_at es q

-- the names of the files that are there
abbrev pub names_of : List Entry → List (List ℕ)
names_of [] = []
names_of (e ∷ es) = if e.there then entry_name e ∷ names_of es else names_of es

-- the name of an entry
abbrev pub name_at : List Entry → ℕ → List ℕ
name_at es i = get_or (map entry_name es) i []

-- the sum of the lengths
abbrev pub used_by : List Entry → ℕ
used_by es = sum_by (λ e. vec_len e.bytes) es

-- the outcome that a number picks for a file whose turn is an odd one or not
abbrev pub outcome_for : ℕ → Bool → Outcome
outcome_for pick odd = if pick == 0 then AsRead else (if pick == 1 then AsStable else (if pick == 2 then Scrambled else (if odd then AsRead else AsStable)))

-- whether the turn behind these entries is an odd one: each file that is there or was has one
abbrev pub turn_behind : Bool → List Entry → Bool
turn_behind odd [] = odd
turn_behind odd (e ∷ es) = turn_behind (if e.there || e.was_there then not odd else odd) es

-- the file is there, and what it reads as is stable
pub record IsSettled (e : Entry) : Type 0 where
  pub there : e.there ≡ true
  pub at_rest : IsAtRest (entry_file e)

-- The entries outside of a range of places are settled.
pub record AreSettledOutside (start end : ℕ) (es : List Entry) : Type 0 where
  pub ordered : start ≤ end
  pub inside : end ≤ length es
  pub each : (k : ℕ) (d : Entry) → k < length es → (k < start) ⊎ (end ≤ k) → IsSettled (get_or es k d)

-- what stands under a name where the entries of files that aren't there were dropped, nothing being pending
pub record IsForgotten (f g : File) : Type 0 where
  pub len : g.len ≡ f.len
  pub now : g.now ≡ f.now
  pub at_rest : IsAtRest g

-- One entry after a stop: one of its outcomes, and all of that stable.
pub record IsStopOf (outcome : Outcome) (old new : Entry) : Type 0 where
  pub name : entry_name new ≡ entry_name old
  pub there : new.there ≡ there_left outcome old.there old.was_there
  pub now : (entry_file new).now ≡ left_by outcome (entry_file old)
  pub at_rest : IsAtRest (entry_file new)
  pub allowed : MayLeave (entry_file old) (entry_file new).now
