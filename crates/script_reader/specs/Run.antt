-- The programs of a run, and what they cost.
use Rattle.std.specs.Prelude.{ℕ, ◌+◌, ◌*◌, ◌-◌, ◌&&◌, nat_le, List, [], ◌∷◌, ◌++◌, length, map, filter, Option, Some, None, option_map, if◌then◌else◌}
use Rattle.scr_base.specs.Sets.{numbers_below}
use Rattle.scr_base.specs.declared.content.Content.{Content}
use Rattle.scr_base.specs.declared.content.Content.TheVariants.{Text, Hex, Fill}
use Rattle.scr_base.specs.declared.content.Step.{Step}
use Rattle.scr_base.specs.declared.content.Step.TheVariants.{Write, Read, End}
use Rattle.script_reader.specs.declared.line.RankStep.{RankStep}
use Rattle.script_reader.specs.declared.run.Left.{Left}
use Rattle.script_reader.specs.declared.run.Cost.{Cost}
use Rattle.script_reader.specs.Routes.{is_meant}

-- the steps that mean a rank, and End
abbrev pub program_of : List RankStep → ℕ → List Step
program_of steps rank = map (λ given. given.step) (filter (λ given. is_meant given.first given.last rank) steps) ++ End ∷ []

-- the programs of that many ranks
abbrev pub programs_of : List RankStep → ℕ → List (List Step)
programs_of steps ranks = map (program_of steps) (numbers_below ranks)

-- how many bytes a write writes
abbrev pub content_len : Content → ℕ
content_len (Text word) = length word
content_len (Hex bytes) = length bytes
content_len (Fill seed len) = len

-- the bytes that a rank writes by a step, where it doesn't end past the longest file
abbrev pub written_by : Step → Option ℕ
written_by (Write name at content) = if nat_le (at + content_len content) 1048576 then Some (content_len content) else None
written_by _ = Some 0

-- the bytes that a rank asks for by a step
abbrev pub read_by : Step → ℕ
read_by (Read name at len) = len
read_by _ = 0

-- how many ranks are meant
abbrev pub ranks_meant : RankStep → ℕ
ranks_meant given = given.last - given.first + 1

-- what a step costs over the ranks meant, where it doesn't end past the longest file
unfoldable pub cost_of : RankStep → Option Cost
cost_of given =
    option_map
    (λ bytes. record { steps = ranks_meant given; written = ranks_meant given * bytes; read = ranks_meant given * read_by given.step })
    (written_by given.step)

-- what is left behind a step, where there was enough
unfoldable pub spent : Left → Cost → Option Left
spent left cost =
    if nat_le cost.steps left.steps && nat_le cost.written left.written && nat_le cost.read left.read
    then Some (record left { steps = left.steps - cost.steps; written = left.written - cost.written; read = left.read - cost.read })
    else None
