-- The spelling of a whole script, and which scripts have one.
use Rattle.std.specs.Prelude.{ℕ, ◌≡◌, ◌+◌, ◌≤◌, true, List, [], ◌∷◌, ◌++◌, length, map, flat_map, codes, decimal, IsTrue, Option, Some, None, Ok}
use Rattle.scr_base.specs.Limits.{is_site, is_config}
use Rattle.scr_base.specs.declared.content.Step.{Step}
use Rattle.scr_base.specs.declared.content.Step.TheVariants as step
use Rattle.scr_base.specs.declared.shape.Scheme.{Scheme}
use Rattle.scr_base.specs.declared.shape.Scheme.TheVariants as scheme
use Rattle.ckpt_model.specs.Text.{words}
use Rattle.script_reader.specs.declared.form.SchemeWord.{SchemeWord}
use Rattle.script_reader.specs.declared.form.SchemeWord.TheVariants as word
use Rattle.script_reader.specs.declared.script.Item.{Item}
use Rattle.script_reader.specs.declared.script.Item.TheVariants as item
use Rattle.script_reader.specs.declared.settings.Settings.{Settings}
use Rattle.script_reader.specs.declared.stage.Stage.TheVariants as stage
use Rattle.script_reader.specs.declared.line.Line.{Line}
use Rattle.script_reader.specs.declared.line.Line.TheVariants as line
use Rattle.script_reader.specs.Values.{Size}
use Rattle.script_reader.specs.Settings.{fits}
use Rattle.script_reader.specs.Progress.{Progress, start, line_taken}
use Rattle.script_reader.specs.Grammar.{Job, script_of, ended}
use Rattle.script_reader.specs.Spellings.{line_text, stands, IsLine}

-- ## The lines of a script

-- the steps of one rank, without the End behind them
abbrev pub program_lines : ℕ → List Step → List Line
program_lines rank [] = []
program_lines rank (step.End ∷ steps) = program_lines rank steps
program_lines rank (s ∷ steps) = line.Rank (record { first = rank; last = rank; step = s }) ∷ program_lines rank steps

-- the steps of the ranks from a number on, rank after rank
abbrev pub programs_lines : ℕ → List (List Step) → List Line
programs_lines rank [] = []
programs_lines rank (program ∷ programs) = program_lines rank program ++ programs_lines (rank + 1) programs

abbrev pub item_lines : Item → List Line
item_lines (item.Run run) = line.Run run.places ∷ programs_lines 0 run.programs ++ map (λ turn. line.Turn turn) run.turns ++ line.Stop run.stop ∷ []
item_lines i = line.Item i ∷ []

abbrev pub script_lines : Job → List Line
script_lines j = flat_map item_lines j.items

-- ## The site and the settings: each setting is told, the shares for Reed-Solomon alone

abbrev pub site_text : Size → List ℕ
site_text z = words (codes "site" ∷ decimal z.nodes ∷ decimal z.ranks ∷ decimal z.spares ∷ [])

abbrev pub set_text : List ℕ → List ℕ → List ℕ
set_text key value = words (codes "set" ∷ key ∷ value ∷ [])

abbrev pub scheme_texts : Scheme → List (List ℕ)
scheme_texts scheme.Single = set_text (codes "scheme") (codes "single") ∷ []
scheme_texts scheme.Partner = set_text (codes "scheme") (codes "partner") ∷ []
scheme_texts scheme.Xor = set_text (codes "scheme") (codes "xor") ∷ []
scheme_texts (scheme.Rs shares) = set_text (codes "scheme") (codes "rs") ∷ set_text (codes "shares") (decimal shares) ∷ []

abbrev pub settings_texts : Job → List (List ℕ)
settings_texts j =
    set_text (codes "size") (decimal j.size)
    ∷ set_text (codes "cache") (decimal j.cache)
    ∷ set_text (codes "flush") (decimal j.flush)
    ∷ set_text (codes "interval") (decimal j.interval)
    ∷ scheme_texts j.scheme

-- ## The text

abbrev pub script_texts : Job → List (List ℕ)
script_texts j = site_text j.site ∷ settings_texts j ++ map line_text (script_lines j)

-- each line ends with a line feed
abbrev pub script_text : Job → List ℕ
script_text j = flat_map (λ text. text ++ 10 ∷ []) (script_texts j)

-- ## Which scripts have a text

abbrev pub with_scheme : Scheme → Settings → Settings
with_scheme scheme.Single s = record s { scheme = Some word.Single }
with_scheme scheme.Partner s = record s { scheme = Some word.Partner }
with_scheme scheme.Xor s = record s { scheme = Some word.Xor }
with_scheme (scheme.Rs shares) s = record s { scheme = Some word.Rs; shares = Some shares }

abbrev pub settings_of : Job → Settings
settings_of j = with_scheme j.scheme (record { scheme = None; shares = None; size = Some j.size; cache = Some j.cache; flush = Some j.flush; interval = Some j.interval })

abbrev pub at_settings : Size → Settings → Progress
at_settings z s = record start { site = z; settings = s; stage = stage.Settings }

-- a line stands behind what was read, and is one of the site
pub record CanStand (p : Progress) (l : Line) : Type 0 where
  pub site : IsTrue (is_site p.site.nodes p.site.ranks p.site.spares)
  pub fits : fits p.settings p.site.nodes ≡ true
  pub is : IsLine p.site l
  pub place : stands p.stage l ≡ true

-- the lines, one taken after the other, each where it can stand
abbrev pub AreTaken : Progress → List Line → Progress → Type 0
AreTaken p [] q = p ≡ q
AreTaken p (l ∷ ls) q = (r : Progress) × (CanStand p l × (line_taken p l ≡ Ok r) × AreTaken r ls q)

-- the site and the configuration are in their ranges, the lines can be taken and make the script, and the text isn't too long
pub record IsScript (j : Job) : Type 0 where
  pub site : IsTrue (is_site j.site.nodes j.site.ranks j.site.spares)
  pub config : IsTrue (is_config j.scheme j.size j.cache j.flush j.interval)
  pub behind : Progress
  pub taken : AreTaken (at_settings j.site (settings_of j)) (script_lines j) behind
  pub made : ended behind ≡ Ok j
  pub short : length (script_text j) ≤ 4194304

-- each script is read back from its text
abbrev pub AreScriptsReadBack : Type 0
AreScriptsReadBack = (j : Job) → IsScript j → script_of (script_text j) ≡ Ok j
