-- Which files each rank routed since its last start, and whether one more is one too many.
use Rattle.std.specs.Prelude.{ℕ, ◌+◌, ◌&&◌, not, nat_le, Bool, false, List, [], ◌∷◌, ◌++◌, length, map, bytes_eq, slice_get, Option, Some, None, if◌then◌else◌}
use Rattle.std.specs.List.{list_any}
use Rattle.scr_base.specs.Limits.{is_in}
use Rattle.scr_base.specs.Sets.{numbers_below}
use Rattle.scr_base.specs.declared.content.Step.{Step}
use Rattle.scr_base.specs.declared.content.Step.TheVariants.{Start, Route}
use Rattle.script_reader.specs.declared.line.RankStep.{RankStep}

-- the files of one rank
abbrev pub Files : Type 0
Files = List (List ℕ)

-- the rank is one of those from the first to the last
abbrev pub is_meant : ℕ → ℕ → ℕ → Bool
is_meant first last rank = is_in first last rank

abbrev pub has_route : List ℕ → Files → Bool
has_route name files = list_any (λ file. bytes_eq file name) files

-- the rank has 16 files, and this is another
abbrev pub is_full : List ℕ → Files → Bool
is_full name files = not (has_route name files) && nat_le 16 (length files)

-- the same for the files at a place, if there are any
abbrev pub is_full_at : List ℕ → Option Files → Bool
is_full_at name None = false
is_full_at name (Some files) = is_full name files

abbrev pub has_full : List Files → ℕ → ℕ → List ℕ → Bool
has_full routes first last name = list_any (λ rank. is_meant first last rank && is_full_at name (slice_get routes rank)) (numbers_below (length routes))

-- the first rank, the last one and a step: one route too many for one of the ranks meant
abbrev pub step_passes : List Files → ℕ → ℕ → Step → Bool
step_passes routes first last (Route name) = has_full routes first last name
step_passes routes first last _ = false

-- a step would be one route too many for one of the ranks meant
abbrev pub passes_routes : List Files → RankStep → Bool
passes_routes routes given = step_passes routes given.first given.last given.step

-- no file for each of that many ranks
abbrev pub no_routes : ℕ → List Files
no_routes ranks = map (λ rank. []) (numbers_below ranks)

-- the file, where it is new
abbrev pub with_route : List ℕ → Files → Files
with_route name files = if has_route name files then files else files ++ name ∷ []

-- the files of the ranks from a number on, changed by f for each rank meant
abbrev pub for_meant : (Files → Files) → ℕ → ℕ → ℕ → List Files → List Files
for_meant f first last rank [] = []
for_meant f first last rank (files ∷ more) = (if is_meant first last rank then f files else files) ∷ for_meant f first last (rank + 1) more

abbrev pub after_start : ℕ → ℕ → ℕ → List Files → List Files
after_start first last rank routes = for_meant (λ files. []) first last rank routes

abbrev pub after_route : List ℕ → ℕ → ℕ → ℕ → List Files → List Files
after_route name first last rank routes = for_meant (with_route name) first last rank routes

abbrev pub after_step : List Files → ℕ → ℕ → Step → List Files
after_step routes first last (Start name flags) = after_start first last 0 routes
after_step routes first last (Route name) = after_route name first last 0 routes
after_step routes first last _ = routes

-- a start forgets the files of the ranks meant, and a route adds what is new
abbrev pub routes_after : List Files → RankStep → List Files
routes_after routes given = after_step routes given.first given.last given.step
