-- The commands on the halt conditions.
use Rattle.std.specs.Prelude.{Option, None, Some}
use Rattle.scr_base.specs.declared.content.HaltWord.{HaltWord}
use Rattle.admin.specs.declared.command.Command.{Command}
use Rattle.admin.specs.declared.command.Command.TheVariants.{HaltSet, HaltClear}

-- a command on the halt conditions
abbrev pub IsHaltCommand : Command → Type 0
IsHaltCommand (HaltSet word) = Unit {0}
IsHaltCommand HaltClear = Unit {0}
IsHaltCommand _ = ⊥

-- the condition that a command sets; none where it unsets all
abbrev pub word_of : Command → Option HaltWord
word_of (HaltSet word) = Some word
word_of _ = None
