-- Steps as a history spells them, in a line of a script.
use Rattle.std.specs.Prelude.{ℕ, ◌≡◌, ◌<◌, ◌≤◌, List, [], ◌∷◌, length, codes, IsTrue, true, Some, Ok}
use Rattle.std.specs.List.{AllByRecursion, list_all}
use Rattle.scr_base.specs.Words.{is_word}
use Rattle.scr_base.specs.declared.content.Content.{Content}
use Rattle.scr_base.specs.declared.content.Content.TheVariants as content
use Rattle.scr_base.specs.declared.content.Step.{Step}
use Rattle.scr_base.specs.declared.content.Step.TheVariants as step
use Rattle.ckpt_model.specs.Text.{words, step_text}
use Rattle.script_reader.specs.declared.step_form.StepForm.{StepForm}
use Rattle.script_reader.specs.declared.form.BodyForm.TheVariants as body
use Rattle.script_reader.specs.declared.form.Form.TheVariants as form
use Rattle.script_reader.specs.declared.line.Line.TheVariants as line
use Rattle.script_reader.specs.Words.{words_of}
use Rattle.script_reader.specs.Forms.{form_of}
use Rattle.script_reader.specs.Values.{Size, ranks_of, who_of, line_of}
use Rattle.script_reader.specs.Progress.{is_text}

-- what a script may write
abbrev pub IsScriptContent : Content → Type 0
IsScriptContent (content.Text word) = IsTrue (is_word word)
IsScriptContent (content.Hex bytes) = (0 < length bytes) × AllByRecursion (λ b. b < 256) bytes
IsScriptContent (content.Fill seed len) = (seed ≤ 255) × (len ≤ 1048576)

-- a step that a line may have: its words and numbers are of their form and range, and it isn't End
abbrev pub IsScriptStep : Step → Type 0
IsScriptStep (step.Start name flags) = IsTrue (is_word name)
IsScriptStep (step.Route name) = IsTrue (is_word name)
IsScriptStep (step.Write name at c) = IsTrue (is_word name) × (at ≤ 1048576) × IsScriptContent c
IsScriptStep (step.Read name at len) = IsTrue (is_word name) × (at ≤ 1048576) × (len ≤ 1048576)
IsScriptStep step.End = ⊥
IsScriptStep _ = Unit {0}

-- rank WHO STEP
abbrev pub rank_text : List ℕ → Step → List ℕ
rank_text who s = words (codes "rank" ∷ who ∷ step_text s ∷ [])

-- the line has only bytes of a text, and is read as this step of the ranks from the first to the last
pub record IsReadAsStep (z : Size) (text : List ℕ) (first last : ℕ) (s : Step) : Type 0 where
  pub kind : StepForm
  pub form : form_of text (words_of text) ≡ Some (form.Body (body.Rank kind))
  pub values : line_of z (body.Rank kind) text (words_of text) ≡ Ok (line.Rank (record { first = first; last = last; step = s }))
  pub bytes : list_all is_text text ≡ true

-- each step is read back as it is spelled
abbrev pub AreReadAsSpelled : Type 0
AreReadAsSpelled =
    (z : Size) (who : List ℕ) (first last : ℕ) (s : Step) → IsTrue (is_word who) → who_of (ranks_of z) who ≡ Some (first, last) → IsScriptStep s
    → IsReadAsStep z (rank_text who s) first last s
