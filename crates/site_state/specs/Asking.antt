-- What may be appended to a rank's program.
use Rattle.std.specs.Prelude.{◌≤◌, ◌-◌, ℕ, Bool, false, not, List, [], ◌∷◌, ◌++◌, length, slice_get, slice_set, Option, option_map, unwrap_or}
use Rattle.scr_base.specs.Calls.{is_end}
use Rattle.scr_base.specs.declared.content.Content.{Content}
use Rattle.scr_base.specs.declared.content.Content.TheVariants as content
use Rattle.scr_base.specs.declared.content.Step.{Step}
use Rattle.scr_base.specs.declared.content.Step.TheVariants as step

-- a rank's steps
abbrev pub program_of : List (List Step) → ℕ → List Step
program_of programs rank = unwrap_or (slice_get programs rank) []

abbrev pub last_step : List Step → Option Step
last_step steps = slice_get steps (length steps - 1)

-- the rank's program doesn't end with End
abbrev pub takes_steps : List (List Step) → ℕ → Bool
takes_steps programs rank = not (unwrap_or (option_map is_end (last_step (program_of programs rank))) false)

-- with a step more at the end of a rank's program
abbrev pub lengthened : List (List Step) → ℕ → Step → List (List Step)
lengthened programs rank step = slice_set programs rank (program_of programs rank ++ step ∷ [])

abbrev pub content_length : Content → ℕ
content_length (content.Text word) = length word
content_length (content.Hex bytes) = length bytes
content_length (content.Fill seed len) = len

-- no place and no length of the step is past this bound
abbrev pub step_limit : ℕ
step_limit = 1048576

abbrev pub IsWithinLimit : Step → Type 0
IsWithinLimit (step.Write name at content) = (at ≤ step_limit) × (content_length content ≤ step_limit)
IsWithinLimit (step.Read name at len) = (at ≤ step_limit) × (len ≤ step_limit)
IsWithinLimit _ = Unit {0}
