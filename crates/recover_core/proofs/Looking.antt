-- A look, from place to place.
use Rattle.std.proofs.Common.{◌≡◌, ◌⊎◌, inl, inr, ◌<◌, ◌≤◌, ◌+◌, ℕ, true, false, List, [], ◌++◌, Ok, Err, map, filter, refl, sym, subst, arith}
use Rattle.std.specs.Prelude.{Vec}
use Rattle.std.proofs.lemmas.Bool.{cases_eq}
use Rattle.std.specs.declared.alloc.Global.{Global}
use Rattle.scr_base.specs.declared.shape.Shape.{Shape}
use Rattle.node_device.specs.DeviceState.{DeviceState}
use Rattle.node_device.specs.Rack.{OnlyAt}
use Rattle.member_store.specs.Members.{AreMembers}
use Rattle.member_store.specs.declared.member.Member.{Member}
use Rattle.site_calls.specs.Calls.{Tells, TellsAlike, KeptAlike}
use Rattle.site_calls.specs.Causes.{CallCause, is_device_fault}
use Rattle.site_calls.specs.Writes.{IsNoWrite}
use Rattle.site_calls.specs.declared.trouble.Trouble.{Trouble}
use Rattle.site_calls.specs.declared.trouble.Trouble.TheVariants as trouble
use Rattle.site_calls.proofs.RefusedCalls.{read_refused}
use Rattle.site_stands.specs.Cells.{cells_of, physical_nodes}
use Rattle.site_stands.proofs.Lists.{physical_low}
use Rattle.recover_core.specs.Look.{AreFound, Looks}
use Rattle.recover_core.specs.Seen.{AreSeen, TakesMembers, is_sealed, found_of}
use Rattle.recover_core.specs.declared.found.FoundSet.{FoundSet}
use Rattle.recover_core.specs.declared.seen.SeenSet.{SeenSet}
use Rattle.recover_core.proofs.Finding.{HasRead, nothing_read, next_read, of_nodes, found_all}
use Rattle.recover_core.proofs.Taking.{none_seen}

-- what the physical nodes before a place hold was taken up
abbrev pub SeenBefore : Shape → (ℕ → DeviceState) → ℕ → List SeenSet → Type 0
SeenBefore shape states place sets = (all : List Member) × HasRead shape (cells_of states) place all × AreSeen shape.nodes all sets

pub begins : (shape : Shape) (states : ℕ → DeviceState) (sets : List SeenSet) → sets ≡ [] → SeenBefore shape states 0 sets
begins shape states sets none = ([], nothing_read shape (cells_of states), subst (AreSeen shape.nodes []) (sym none) (none_seen shape.nodes))

pub goes_on : (shape : Shape) (first now : ℕ → DeviceState) (place : ℕ) (members : List Member) (old new : List SeenSet) → now ≡ first → place < physical_nodes shape → Tells first → ((now place).tells ≡ true → AreMembers shape (now place) members) → TakesMembers shape.nodes members old new → SeenBefore shape first place old → SeenBefore shape first (place + 1) new
goes_on shape first now place members old new same low tells are takes (all, has, seen) =
    let its : AreMembers shape (first place) members = subst (λ (s : ℕ → DeviceState). (s place).tells ≡ true → AreMembers shape (s place) members) same are (tells place (omega (arith, low, physical_low shape))) in
    (all ++ members, next_read shape first place all members its has, takes all (of_nodes shape (first place) members its) seen)

-- ## How it ends

unchanged_alike : (d : DeviceState) → KeptAlike d d
unchanged_alike d = read_refused d d refl

pub wants_memory : (shape : Shape) (old new : ℕ → DeviceState) → new ≡ old → Looks shape (Err trouble.Memory) old new
wants_memory shape old new same = subst (Looks shape (Err trouble.Memory) old) (sym same) (record {
  found = tt;
  same = tt;
  refused = λ p. unchanged_alike (old p);
  cause = λ place. refl;
  spared = λ calm. refl;
  tells = λ p. refl;
})

pub refused_at : (shape : Shape) (first old new : ℕ → DeviceState) → old ≡ first → (place : ℕ) (why : Trouble) → OnlyAt place KeptAlike old new → CallCause {T = Vec FoundSet Global} IsNoWrite old new (Err why) → (is_device_fault why ≡ false → new ≡ old) → TellsAlike old new → Looks shape (Err why) first new
refused_at shape first old new same place why refused cause spared tells = subst (λ (s : ℕ → DeviceState). Looks shape (Err why) s new) same (record {
  found = tt;
  same = tt;
  refused = λ p. kept p (cases_eq p place);
  cause = cause;
  spared = spared;
  tells = tells;
})
  where
    kept : (p : ℕ) → (p ≡ place) ⊎ ((p ≡ place) → ⊥) → KeptAlike (old p) (new p)
    kept p (inl here) = subst (λ (q : ℕ). KeptAlike (old q) (new q)) (sym here) refused.here
    kept p (inr away) = subst (λ (d : DeviceState). KeptAlike (old p) d) (sym (refused.others p away)) (unchanged_alike (old p))

pub ends : (shape : Shape) (first now : ℕ → DeviceState) (place : ℕ) (sets : List SeenSet) (found : Vec FoundSet Global) → now ≡ first → physical_nodes shape ≤ place → place ≤ physical_nodes shape → found.items ≡ map (found_of shape.nodes) (filter is_sealed sets) → (Tells first → SeenBefore shape first place sets) → Looks shape (Ok found) first now
ends shape first now place sets found same end low is seen = subst (Looks shape (Ok found) first) (sym same) (record {
  found = λ tells. at_end (seen tells);
  same = refl;
  refused = tt;
  cause = λ p. refl;
  spared = tt;
  tells = λ p. refl;
})
  where
    at : place ≡ physical_nodes shape
    at = omega (arith, end, low)

    at_end : SeenBefore shape first place sets → AreFound shape (cells_of first) found.items
    at_end (all, has, are) = subst (AreFound shape (cells_of first)) (sym is) (found_all shape (cells_of first) all sets (subst (λ (n : ℕ). HasRead shape (cells_of first) n all) at has) are)
