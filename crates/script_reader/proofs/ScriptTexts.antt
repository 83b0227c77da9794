-- Scripts are read back as they are spelled.
use Rattle.std.proofs.Common.{◌≡◌, ℕ, zero, suc, ◌+◌, ◌*◌, ◌-◌, ◌<◌, ◌≤◌, ◌^◌, List, [], ◌∷◌, ◌++◌, Bool, true, false, refl, sym, ap, ◌∙◌, Option, Some, None, Ok, length, get_or, map, decimal, codes, arith, append_assoc, ◌&&◌}
use Rattle.std.specs.Prelude.{◌==◌, not, nat_le, nat_lt, flat_map}
use Rattle.std.specs.List.{list_all, All}
use Rattle.std.proofs.lemmas.List.Splits.{slice_split_at, slice_split_none}
use Rattle.ckpt_model.specs.Text.{words}
use Rattle.scr_base.specs.Words.{is_word_byte}
use Rattle.scr_base.specs.Limits.{is_in, is_site, is_scheme, is_config}
use Rattle.scr_base.specs.declared.shape.Scheme.{Scheme}
use Rattle.scr_base.specs.declared.shape.Scheme.TheVariants as scheme
use Rattle.script_reader.specs.declared.form.SchemeWord.TheVariants as word
use Rattle.script_reader.specs.declared.form.Key.{Key}
use Rattle.script_reader.specs.declared.form.Key.TheVariants as key
use Rattle.script_reader.specs.declared.form.Form.TheVariants as form
use Rattle.script_reader.specs.declared.settings.Settings.{Settings}
use Rattle.script_reader.specs.declared.stage.Stage.{Stage}
use Rattle.script_reader.specs.declared.stage.Stage.TheVariants as stage
use Rattle.script_reader.specs.declared.line.Line.{Line}
use Rattle.script_reader.specs.declared.line.Line.TheVariants as line
use Rattle.script_reader.specs.Reasons.{◌>>=◌}
use Rattle.script_reader.specs.Words.{pieces_of, words_of, is_empty, has_empty}
use Rattle.script_reader.specs.Values.{Size, number_at}
use Rattle.script_reader.specs.Forms.{form_of, set_form, key_of, scheme_word}
use Rattle.script_reader.specs.Settings.{no_settings, is_set, set_by}
use Rattle.script_reader.specs.Progress.{Progress, start, is_text, is_before, is_settings, after_line, words_taken, order_fault, allows, allows_body, form_taken, body_taken, site_taken, setting_taken, line_taken}
use Rattle.script_reader.specs.Grammar.{Job, at_line, ended, lines_read, script_of}
use Rattle.script_reader.specs.Spellings.{line_text, stands}
use Rattle.script_reader.specs.ScriptTexts.{script_lines, site_text, set_text, scheme_texts, settings_texts, script_texts, script_text, with_scheme, settings_of, at_settings, CanStand, AreTaken, IsScript}
use Rattle.script_reader.proofs.Tests.{left_true, right_true, and_false, le_is, none_is}
use Rattle.script_reader.proofs.StepLines.{is_visible, AreVisible, words_split, words_text}
use Rattle.script_reader.proofs.Spellings.{clear, some, num, line_back}

-- ## Lines of the runs and between them

not_before : (s : Stage) (l : Line) → stands s l ≡ true → is_before s ≡ false
not_before stage.Before (line.Run places) e = cc
not_before stage.Before (line.Rank given) e = cc
not_before stage.Before (line.Turn turn) e = cc
not_before stage.Before (line.Stop stop) e = cc
not_before stage.Before (line.Item i) e = cc
not_before stage.Settings l e = refl
not_before stage.Between l e = refl
not_before stage.Ranks l e = refl
not_before stage.Turns l e = refl

line_read : (p : Progress) (l : Line) → CanStand p l → after_line p (line_text l) ≡ line_taken p l
unfolding after_line words_taken order_fault allows form_taken body_taken
line_read p l can =
    let r = line_back p.site l can.site can.is in
    let place : allows_body p.stage r.kind ≡ true = r.place p.stage ∙ can.place in
    rw (r.bytes, r.begins, r.form, not_before p.stage l can.place, place, can.fits, and_false (is_settings p.stage), r.values) refl

lines_step : (n : ℕ) (p : Progress) (t : List ℕ) (ts : List (List ℕ)) → lines_read n p (t ∷ (ts ++ [] ∷ [])) ≡ (at_line n (after_line p t) >>= λ q. lines_read (n + 1) q (ts ++ [] ∷ []))
unfolding lines_read
lines_step n p t [] = refl
lines_step n p t (u ∷ ts) = refl

-- one line, and what is behind it
text_step : (n : ℕ) (p q : Progress) (t : List ℕ) (ts : List (List ℕ)) (j : Job) → after_line p t ≡ Ok q → lines_read (n + 1) q (ts ++ [] ∷ []) ≡ Ok j → lines_read n p (t ∷ (ts ++ [] ∷ [])) ≡ Ok j
text_step n p q t ts j e more = rw (lines_step n p t ts, e) more

lines_come : (n : ℕ) (p q : Progress) (ls : List Line) (j : Job) → AreTaken p ls q → ended q ≡ Ok j → lines_read n p (map line_text ls ++ [] ∷ []) ≡ Ok j
unfolding lines_read
lines_come n p q [] j same made = rw (same, made) refl
lines_come n p q (l ∷ ls) j taken made =
    text_step n p taken.0 (line_text l) (map line_text ls) j (line_read p l taken.1.0 ∙ taken.1.1) (lines_come (n + 1) taken.0 q ls j taken.1.2 made)

-- ## The site and the settings

site_read : (z : Size) → is_site z.nodes z.ranks z.spares ≡ true → z.nodes ≤ 255 → z.ranks ≤ 255 → z.spares ≤ 255 → after_line start (site_text z) ≡ Ok (at_settings z no_settings)
unfolding after_line words_taken form_of order_fault form_taken site_taken number_at
site_read z site n r s =
    let visible : AreVisible (codes "site" ∷ decimal z.nodes ∷ decimal z.ranks ∷ decimal z.spares ∷ []) = (refl, (clear z.nodes (omega arith), (clear z.ranks (omega arith), (clear z.spares (omega arith), tt)))) in
    rw (
      words_text (codes "site") (decimal z.nodes ∷ decimal z.ranks ∷ decimal z.spares ∷ []) visible,
      words_split (codes "site") (decimal z.nodes ∷ decimal z.ranks ∷ decimal z.spares ∷ []) visible,
      some z.nodes (omega arith),
      some z.ranks (omega arith),
      some z.spares (omega arith),
      num 0 255 z.nodes (omega arith) n (omega arith),
      num 0 255 z.ranks (omega arith) r (omega arith),
      num 0 255 z.spares (omega arith) s (omega arith),
      site,
    )
    refl

set_read : (z : Size) (s t : Settings) (k : Key) (name value : List ℕ) → is_visible name ≡ true → is_empty name ≡ false → is_visible value ≡ true → is_empty value ≡ false
    → set_form (codes "set" ∷ name ∷ value ∷ []) ≡ Some (form.Set k) → is_set s k ≡ false → set_by s k value ≡ Some t → after_line (at_settings z s) (set_text name value) ≡ Ok (at_settings z t)
unfolding after_line words_taken form_of order_fault allows form_taken setting_taken
set_read z s t k name value seen named shown valued form unset by =
    let visible : AreVisible (codes "set" ∷ name ∷ value ∷ []) = (refl, (seen, (shown, tt))) in
    rw (words_text (codes "set") (name ∷ value ∷ []) visible, words_split (codes "set") (name ∷ value ∷ []) visible, named, valued, form, unset, by) refl

-- a number that is set
number_read : (z : Size) (s t : Settings) (k : Key) (name : List ℕ) (n : ℕ) → n ≤ 1000000 → is_visible name ≡ true → is_empty name ≡ false
    → set_form (codes "set" ∷ name ∷ decimal n ∷ []) ≡ Some (form.Set k) → is_set s k ≡ false → set_by s k (decimal n) ≡ Some t → after_line (at_settings z s) (set_text name (decimal n)) ≡ Ok (at_settings z t)
number_read z s t k name n le seen named form unset by = set_read z s t k name (decimal n) seen named (clear n (omega arith)) (some n (omega arith)) form unset by

-- the settings whose scheme is told last
abbrev before_scheme : Settings → Type 0
before_scheme s = (s.scheme ≡ None) × (s.shares ≡ None)

scheme_come : (n : ℕ) (z : Size) (s : Settings) (c : Scheme) (ts : List (List ℕ)) (j : Job) → before_scheme s → is_scheme c ≡ true
    → ((m : ℕ) → lines_read m (at_settings z (with_scheme c s)) (ts ++ [] ∷ []) ≡ Ok j) → lines_read n (at_settings z s) ((scheme_texts c ++ ts) ++ [] ∷ []) ≡ Ok j
unfolding set_form key_of scheme_word is_set set_by
scheme_come n z s scheme.Single ts j none is more =
    text_step n (at_settings z s) (at_settings z (record s { scheme = Some word.Single })) (set_text (codes "scheme") (codes "single")) ts j
    (set_read z s (record s { scheme = Some word.Single }) (key.Scheme word.Single) (codes "scheme") (codes "single") refl refl refl refl refl (rw none.0 refl) refl) (more (n + 1))
scheme_come n z s scheme.Partner ts j none is more =
    text_step n (at_settings z s) (at_settings z (record s { scheme = Some word.Partner })) (set_text (codes "scheme") (codes "partner")) ts j
    (set_read z s (record s { scheme = Some word.Partner }) (key.Scheme word.Partner) (codes "scheme") (codes "partner") refl refl refl refl refl (rw none.0 refl) refl) (more (n + 1))
scheme_come n z s scheme.Xor ts j none is more =
    text_step n (at_settings z s) (at_settings z (record s { scheme = Some word.Xor })) (set_text (codes "scheme") (codes "xor")) ts j
    (set_read z s (record s { scheme = Some word.Xor }) (key.Scheme word.Xor) (codes "scheme") (codes "xor") refl refl refl refl refl (rw none.0 refl) refl) (more (n + 1))
scheme_come n z s (scheme.Rs k) ts j none is more =
    let above : 1 ≤ k = le_is 1 k (left_true (nat_le 1 k) (nat_le k 15) is) in
    let le : k ≤ 15 = le_is k 15 (right_true (nat_le 1 k) (nat_le k 15) is) in
    let s1 : Settings = record s { scheme = Some word.Rs } in
    text_step n (at_settings z s) (at_settings z (record s { scheme = Some word.Rs })) (set_text (codes "scheme") (codes "rs")) (set_text (codes "shares") (decimal k) ∷ ts) j
    (set_read z s (record s { scheme = Some word.Rs }) (key.Scheme word.Rs) (codes "scheme") (codes "rs") refl refl refl refl refl (rw none.0 refl) refl)
    (text_step (n + 1) (at_settings z (record s { scheme = Some word.Rs })) (at_settings z (record s { scheme = Some word.Rs; shares = Some k })) (set_text (codes "shares") (decimal k)) ts j
    (number_read z (record s { scheme = Some word.Rs }) (record s { scheme = Some word.Rs; shares = Some k }) key.Shares (codes "shares") k (omega arith) refl refl refl (rw none.1 refl)
    (rw (num 1 15 k above le (omega arith)) refl))
    (more (n + 1 + 1)))

record Ranges (j : Job) : Type 0 where
  scheme : is_scheme j.scheme ≡ true
  low : 2 ≤ j.size
  size : j.size ≤ 16
  some : 1 ≤ j.cache
  cache : j.cache ≤ 4
  flush : j.flush ≤ 1000000
  first : 1 ≤ j.interval
  interval : j.interval ≤ 1000000

five : (a b c d e : Bool) → (a && b && c && d && e) ≡ true → (a ≡ true) × (b ≡ true) × (c ≡ true) × (d ≡ true) × (e ≡ true)
five false b c d e h = cc
five true false c d e h = cc
five true true false d e h = cc
five true true true false e h = cc
five true true true true false h = cc
five true true true true true h = (refl, refl, refl, refl, refl)

ranges : (j : Job) → is_config j.scheme j.size j.cache j.flush j.interval ≡ true → Ranges j
ranges j e =
    let p = five (is_scheme j.scheme) (is_in 2 16 j.size) (is_in 1 4 j.cache) (nat_le j.flush 1000000) (is_in 1 1000000 j.interval) e in
    record {
      scheme = p.0;
      low = le_is 2 j.size (left_true (nat_le 2 j.size) (nat_le j.size 16) p.1);
      size = le_is j.size 16 (right_true (nat_le 2 j.size) (nat_le j.size 16) p.1);
      some = le_is 1 j.cache (left_true (nat_le 1 j.cache) (nat_le j.cache 4) p.2);
      cache = le_is j.cache 4 (right_true (nat_le 1 j.cache) (nat_le j.cache 4) p.2);
      flush = le_is j.flush 1000000 p.3;
      first = le_is 1 j.interval (left_true (nat_le 1 j.interval) (nat_le j.interval 1000000) p.4);
      interval = le_is j.interval 1000000 (right_true (nat_le 1 j.interval) (nat_le j.interval 1000000) p.4);
    }

settings_come : (j : Job) (ts : List (List ℕ)) → Ranges j → ((m : ℕ) → lines_read m (at_settings j.site (settings_of j)) (ts ++ [] ∷ []) ≡ Ok j)
    → lines_read 2 (at_settings j.site no_settings) ((settings_texts j ++ ts) ++ [] ∷ []) ≡ Ok j
unfolding set_form key_of is_set set_by
settings_come j ts r more =
    let r4 : List (List ℕ) = scheme_texts j.scheme ++ ts in
    let r3 : List (List ℕ) = set_text (codes "interval") (decimal j.interval) ∷ r4 in
    let r2 : List (List ℕ) = set_text (codes "flush") (decimal j.flush) ∷ r3 in
    let r1 : List (List ℕ) = set_text (codes "cache") (decimal j.cache) ∷ r2 in
    let size_le : j.size ≤ 16 = r.size in
    let cache_le : j.cache ≤ 4 = r.cache in
    text_step 2 (at_settings j.site no_settings) (at_settings j.site (record no_settings { size = Some j.size })) (set_text (codes "size") (decimal j.size)) r1 j
    (number_read j.site no_settings (record no_settings { size = Some j.size }) key.Size (codes "size") j.size (omega arith) refl refl refl refl (rw (num 2 16 j.size r.low r.size (omega arith)) refl))
    (text_step (2 + 1) (at_settings j.site (record no_settings { size = Some j.size })) (at_settings j.site (record no_settings { size = Some j.size; cache = Some j.cache })) (set_text (codes "cache") (decimal j.cache)) r2 j
    (number_read j.site (record no_settings { size = Some j.size }) (record no_settings { size = Some j.size; cache = Some j.cache }) key.Cache (codes "cache") j.cache (omega arith) refl refl refl refl (rw (num 1 4 j.cache r.some r.cache (omega arith)) refl))
    (text_step (2 + 1 + 1) (at_settings j.site (record no_settings { size = Some j.size; cache = Some j.cache })) (at_settings j.site (record no_settings { size = Some j.size; cache = Some j.cache; flush = Some j.flush })) (set_text (codes "flush") (decimal j.flush)) r3 j
    (number_read j.site (record no_settings { size = Some j.size; cache = Some j.cache }) (record no_settings { size = Some j.size; cache = Some j.cache; flush = Some j.flush }) key.Flush (codes "flush") j.flush r.flush refl refl refl refl (rw (num 0 1000000 j.flush (omega arith) r.flush (let le : j.flush ≤ 1000000 = r.flush in omega arith)) refl))
    (text_step (2 + 1 + 1 + 1) (at_settings j.site (record no_settings { size = Some j.size; cache = Some j.cache; flush = Some j.flush })) (at_settings j.site (record no_settings { size = Some j.size; cache = Some j.cache; flush = Some j.flush; interval = Some j.interval })) (set_text (codes "interval") (decimal j.interval)) r4 j
    (number_read j.site (record no_settings { size = Some j.size; cache = Some j.cache; flush = Some j.flush }) (record no_settings { size = Some j.size; cache = Some j.cache; flush = Some j.flush; interval = Some j.interval }) key.Interval (codes "interval") j.interval r.interval refl refl refl refl (rw (num 1 1000000 j.interval r.first r.interval (let le : j.interval ≤ 1000000 = r.interval in omega arith)) refl))
    (scheme_come (2 + 1 + 1 + 1 + 1) j.site (record no_settings { size = Some j.size; cache = Some j.cache; flush = Some j.flush; interval = Some j.interval }) j.scheme ts j (refl, refl) r.scheme more))))

-- ## The text

abbrev AreTexts : List (List ℕ) → Type 0
AreTexts [] = Unit {0}
AreTexts (t ∷ ts) = (list_all is_text t ≡ true) × AreTexts ts

both_texts : (ts us : List (List ℕ)) → AreTexts ts → AreTexts us → AreTexts (ts ++ us)
both_texts [] us h k = k
both_texts (t ∷ ts) us h k = (h.0, both_texts ts us h.1 k)

lines_texts : (p q : Progress) (ls : List Line) → AreTaken p ls q → AreTexts (map line_text ls)
lines_texts p q [] taken = tt
lines_texts p q (l ∷ ls) taken = ((line_back p.site l taken.1.0.site taken.1.0.is).bytes, lines_texts taken.0 q ls taken.1.2)

no_feed : (b : ℕ) → is_text b ≡ true → (b == 10) ≡ false
no_feed b e = grind arith

unfed : (w : List ℕ) → list_all is_text w ≡ true → All (λ b. (b == 10) ≡ false) w
unfed w e = none_is 10 is_text no_feed w e

texts_split : (ts : List (List ℕ)) → AreTexts ts → pieces_of 10 (flat_map (λ t. t ++ 10 ∷ []) ts) ≡ ts ++ [] ∷ []
unfolding pieces_of
texts_split [] h = slice_split_none (λ b. b == 10) [] (unfed [] refl)
texts_split (t ∷ ts) h =
    rw (append_assoc t (10 ∷ []) (flat_map (λ t. t ++ 10 ∷ []) ts))
    (slice_split_at (λ b. b == 10) t 10 (flat_map (λ t. t ++ 10 ∷ []) ts) (unfed t h.0) refl ∙ ap (λ (us : List (List ℕ)). t ∷ us) (texts_split ts h.1))

set_is_text : (name value : List ℕ) → is_visible name ≡ true → is_visible value ≡ true → list_all is_text (set_text name value) ≡ true
set_is_text name value n v = words_text (codes "set") (name ∷ value ∷ []) (refl, (n, (v, tt)))

schemes_texts : (c : Scheme) → is_scheme c ≡ true → AreTexts (scheme_texts c)
schemes_texts scheme.Single e = (refl, tt)
schemes_texts scheme.Partner e = (refl, tt)
schemes_texts scheme.Xor e = (refl, tt)
schemes_texts (scheme.Rs k) e =
    let le : k ≤ 15 = le_is k 15 (right_true (nat_le 1 k) (nat_le k 15) e) in
    (refl, (set_is_text (codes "shares") (decimal k) refl (clear k (omega arith)), tt))

three_parts : (a b c d : Bool) → (a && b && c && d) ≡ true → (a ≡ true) × (b ≡ true) × (c ≡ true)
three_parts false b c d e = cc
three_parts true false c d e = cc
three_parts true true false d e = cc
three_parts true true true false e = cc
three_parts true true true true e = (refl, refl, refl)

pub script_back : (j : Job) → IsScript j → script_of (script_text j) ≡ Ok j
unfolding script_of
script_back j is =
    let p = three_parts (is_in 1 16 j.site.nodes) (is_in 1 8 j.site.ranks) (nat_le j.site.spares 16) (nat_le (j.site.nodes * j.site.ranks) 64) is.site in
    let nodes : j.site.nodes ≤ 16 = le_is j.site.nodes 16 (right_true (nat_le 1 j.site.nodes) (nat_le j.site.nodes 16) p.0) in
    let ranks : j.site.ranks ≤ 8 = le_is j.site.ranks 8 (right_true (nat_le 1 j.site.ranks) (nat_le j.site.ranks 8) p.1) in
    let spares : j.site.spares ≤ 16 = le_is j.site.spares 16 p.2 in
    let r = ranges j is.config in
    let size_le : j.size ≤ 16 = r.size in
    let cache_le : j.cache ≤ 4 = r.cache in
    let flush_le : j.flush ≤ 1000000 = r.flush in
    let interval_le : j.interval ≤ 1000000 = r.interval in
    let short : nat_lt 4194304 (length (script_text j)) ≡ false = (let le : length (script_text j) ≤ 4194304 = is.short in grind arith) in
    let site_texts : list_all is_text (site_text j.site) ≡ true =
    words_text (codes "site") (decimal j.site.nodes ∷ decimal j.site.ranks ∷ decimal j.site.spares ∷ [])
    (refl, (clear j.site.nodes (omega arith), (clear j.site.ranks (omega arith), (clear j.site.spares (omega arith), tt)))) in
    let set_texts : AreTexts (settings_texts j) = (
      set_is_text (codes "size") (decimal j.size) refl (clear j.size (omega arith)),
      (
        set_is_text (codes "cache") (decimal j.cache) refl (clear j.cache (omega arith)),
        (
          set_is_text (codes "flush") (decimal j.flush) refl (clear j.flush (omega arith)),
          (set_is_text (codes "interval") (decimal j.interval) refl (clear j.interval (omega arith)), schemes_texts j.scheme r.scheme),
        ),
      ),
    ) in
    let texts : AreTexts (script_texts j) = (site_texts, both_texts (settings_texts j) (map line_text (script_lines j)) set_texts (lines_texts (at_settings j.site (settings_of j)) is.behind (script_lines j) is.taken)) in
    let split : pieces_of 10 (script_text j) ≡ script_texts j ++ [] ∷ [] = texts_split (script_texts j) texts in
    let whole : lines_read 1 start (script_texts j ++ [] ∷ []) ≡ Ok j =
    text_step 1 start (at_settings j.site no_settings) (site_text j.site) (settings_texts j ++ map line_text (script_lines j)) j
    (site_read j.site is.site (omega arith) (omega arith) (omega arith))
    (settings_come j (map line_text (script_lines j)) r (λ m. lines_come m (at_settings j.site (settings_of j)) is.behind (script_lines j) j is.taken is.made)) in
    rw (short, split) whole
