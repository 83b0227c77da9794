-- Lines are read back as they are spelled.
use Rattle.std.proofs.Common.{◌≡◌, ℕ, zero, suc, ◌+◌, ◌*◌, ◌-◌, ◌<◌, ◌≤◌, ◌^◌, ◌⊎◌, inl, inr, List, [], ◌∷◌, ◌++◌, Bool, true, false, refl, sym, ap, subst, ◌∙◌, Option, Some, None, Ok, length, get_or, take, drop, map, decimal, codes, arith, add-one, append_assoc, ◌&&◌}
use Rattle.std.specs.Prelude.{◌==◌, not, nat_le, nat_lt, bytes_eq, position}
use Rattle.std.specs.List.{list_all, list_any, position_or_len, join_with_byte, All}
use Rattle.std.proofs.lemmas.List.{append-nil}
use Rattle.std.proofs.lemmas.List.Splits.{slice_split_at, slice_split_none, join_with_byte-slice_split}
use Rattle.std.proofs.lemmas.Fmt.{digits_decimal, decimal_nonempty, length-decimal-le}
use Rattle.scr_base.specs.Words.{is_word_byte, is_word, is_name, is_name_byte, begins_well}
use Rattle.scr_base.specs.Limits.{is_in, is_site}
use Rattle.scr_base.specs.Sets.{is_among}
use Rattle.scr_base.specs.declared.actor.Actor.{Actor}
use Rattle.scr_base.specs.declared.actor.Actor.TheVariants as actor
use Rattle.scr_base.specs.declared.content.HaltWord.{HaltWord}
use Rattle.scr_base.specs.declared.content.HaltWord.TheVariants as halt
use Rattle.ckpt_model.specs.Text.{words, numbers_joined}
use Rattle.ckpt_model.specs.declared.stop_line.StopPlace.{StopPlace}
use Rattle.ckpt_model.specs.declared.stop_line.StopPlace.TheVariants as place
use Rattle.admin.specs.declared.command.Command.{Command}
use Rattle.admin.specs.declared.command.Command.TheVariants as command
use Rattle.script_reader.specs.declared.form.BodyForm.{BodyForm}
use Rattle.script_reader.specs.declared.form.BodyForm.TheVariants as body
use Rattle.script_reader.specs.declared.form.PlaceForm.TheVariants as place_form
use Rattle.script_reader.specs.declared.form.HaltForm.TheVariants as halt_form
use Rattle.script_reader.specs.declared.script.Item.{Item}
use Rattle.script_reader.specs.declared.script.Item.TheVariants as item
use Rattle.script_reader.specs.declared.line.Line.{Line}
use Rattle.script_reader.specs.declared.line.Line.TheVariants as line
use Rattle.script_reader.specs.Numbers.{is_digit, number_in}
use Rattle.script_reader.specs.Words.{pieces_of, words_of, cut_at, is_empty, has_empty, has, behind_word}
use Rattle.script_reader.specs.Values.{Size, ranks_of, devices_of, who_of, range_of, below, next_place, place_list, line_of, run_line, turn_line, turn_rank_line, stop_line, place_of, lose_line, cut_line, drop_line, current_line, halt_line, halt_of, checkpoints_in, id_in, great_in, pick_in, times_in, name_in, number_at}
use Rattle.script_reader.specs.Forms.{form_of, body_form, between_form, turn_form, stop_form, stop_text, scavenge_form, index_form, halt_form as halt_line_form, halt_word, sized}
use Rattle.script_reader.specs.Spelled.{IsScriptStep}
use Rattle.script_reader.specs.declared.stage.Stage.{Stage}
use Rattle.script_reader.specs.Progress.{is_text, is_skipped, allows_body}
use Rattle.script_reader.specs.Spellings.{stands, line_text, actor_words, item_words, no_cut, ArePlaces, IsStopText, IsLine, IsReadAs}
use Rattle.script_reader.proofs.Decimals.{own, decimal_is_read}
use Rattle.script_reader.proofs.Tests.{left_true, right_true, le_is, le_says, lt_says, none_is, all_weaker, all_append}
use Rattle.script_reader.proofs.StepLines.{is_visible, AreVisible, not_blank, unblank, words_split, words_text, full, digit_visible, step_line}

-- ## Numbers

digits : (n : ℕ) → n ≤ 9999999999 → list_all is_digit (decimal n) ≡ true
digits n small = digits_decimal own n (omega arith)

pub clear : (n : ℕ) → n ≤ 9999999999 → is_visible (decimal n) ≡ true
clear n small = all_weaker is_digit is_word_byte digit_visible (decimal n) (digits n small)

pub some : (n : ℕ) → n ≤ 9999999999 → is_empty (decimal n) ≡ false
some n small = full (decimal n) (decimal_nonempty n (omega arith))

pub num : (low high n : ℕ) → low ≤ n → n ≤ high → n ≤ 9999999999 → number_in low high (decimal n) ≡ Some n
num low high n above le small = decimal_is_read low high n (decimal n) (record { above = above; below = le; short = small; spelled = refl })

below_back : (count n : ℕ) → n < count → n ≤ 9999999999 → below count (decimal n) ≡ Some n
unfolding below
below_back count n lt small =
    let more : (count == 0) ≡ false = grind arith in
    rw (more, num 0 (count - 1) n (omega arith) (omega arith) small) refl

-- ## Ranks

no_dash : (b : ℕ) → is_digit b ≡ true → not (b == 45) ≡ true
no_dash b e = grind arith

not_true : (b : Bool) → not b ≡ true → b ≡ false
not_true true e = cc
not_true false e = refl

-- no byte of that kind
absent : (c : ℕ) (w : List ℕ) → list_all (λ b. not (b == c)) w ≡ true → position_or_len (λ b. b == c) w ≡ length w
absent c [] e = refl
absent c (b ∷ w) e = rw (not_true (b == c) (left_true (not (b == c)) (list_all (λ d. not (d == c)) w) e), absent c w (right_true (not (b == c)) (list_all (λ d. not (d == c)) w) e)) (omega arith)

uncut : (c : ℕ) (w : List ℕ) → list_all (λ b. not (b == c)) w ≡ true → cut_at c w ≡ None
unfolding cut_at
uncut c w e =
    let far : nat_lt (length w) (length w) ≡ false = grind arith in
    rw (absent c w e, far) refl

not_all : (w : List ℕ) → list_all is_digit w ≡ true → bytes_eq w (codes "all") ≡ false
not_all [] e = refl
not_all (b ∷ w) e = let digit : (b == 97) ≡ false = grind arith in rw digit refl

le_self : (n : ℕ) → nat_le n n ≡ true
le_self n = grind arith

who_back : (ranks rank : ℕ) → rank < ranks → ranks ≤ 64 → who_of ranks (decimal rank) ≡ Some (rank, rank)
unfolding who_of range_of
who_back ranks rank lt few =
    let word : bytes_eq (decimal rank) (codes "all") ≡ false = not_all (decimal rank) (digits rank (omega arith)) in
    let whole : cut_at 45 (decimal rank) ≡ None = uncut 45 (decimal rank) (all_weaker is_digit (λ b. not (b == 45)) no_dash (decimal rank) (digits rank (omega arith))) in
    let back : below ranks (decimal rank) ≡ Some rank = below_back ranks rank lt (omega arith) in
    rw (word, whole, back, le_self rank) refl

decimal_word : (n : ℕ) → n ≤ 9999999999 → is_word (decimal n) ≡ true
decimal_word n small =
    let many : nat_le 1 (length (decimal n)) ≡ true = le_says 1 (length (decimal n)) (decimal_nonempty n (omega arith)) in
    let few : nat_le (length (decimal n)) 80 ≡ true = le_says (length (decimal n)) 80 (omega (arith, length-decimal-le 10 n (omega arith) (omega arith) (omega arith))) in
    rw (many, few, clear n small) refl

-- ## A line of words

go_split : (z : Size) (text w : List ℕ) (ws : List (List ℕ)) (k : BodyForm) (l : Line) → is_skipped text ≡ false → ((s : Stage) → allows_body s k ≡ stands s l) → list_all is_text text ≡ true
    → words_of text ≡ w ∷ ws → has_empty (w ∷ ws) ≡ false → has (w ∷ ws) 0 (codes "site") ≡ false → has (w ∷ ws) 0 (codes "set") ≡ false
    → body_form text (w ∷ ws) ≡ Some k → line_of z k text (w ∷ ws) ≡ Ok l → IsReadAs z text l
unfolding form_of
go_split z text w ws k l begins place bytes split filled site set form values =
    record { kind = k; form = rw (split, filled, site, set, form) refl; values = rw (split, values) refl; place = place; bytes = bytes; begins = begins }

go : (z : Size) (w : List ℕ) (ws : List (List ℕ)) (k : BodyForm) (l : Line) → is_skipped (words (w ∷ ws)) ≡ false → ((s : Stage) → allows_body s k ≡ stands s l) → AreVisible (w ∷ ws)
    → has_empty (w ∷ ws) ≡ false → has (w ∷ ws) 0 (codes "site") ≡ false → has (w ∷ ws) 0 (codes "set") ≡ false
    → body_form (words (w ∷ ws)) (w ∷ ws) ≡ Some k → line_of z k (words (w ∷ ws)) (w ∷ ws) ≡ Ok l → IsReadAs z (words (w ∷ ws)) l
go z w ws k l begins place visible filled site set form values =
    go_split z (words (w ∷ ws)) w ws k l begins place (words_text w ws visible) (words_split w ws visible) filled site set form values

rank_back : (z : Size) (l : Line) (first last : ℕ) (s : _) → l ≡ line.Rank (record { first = first; last = last; step = s }) → first ≡ last → first < ranks_of z → ranks_of z ≤ 64 → IsScriptStep s → IsReadAs z (line_text l) l
unfolding allows_body
rank_back z l first last s e same lt few is =
    let who : who_of (ranks_of z) (decimal first) ≡ Some (first, last) = who_back (ranks_of z) first lt few ∙ ap (λ (k : ℕ). Some (first, k)) same in
    let r = step_line z (decimal first) first last s (decimal_word first (omega arith)) who is in
    rw e (record { kind = body.Rank r.kind; form = r.form; values = r.values; place = λ s. refl; bytes = r.bytes; begins = refl })

turn_back : (z : Size) (who : Actor) (times : ℕ) → ranks_of z ≤ 64 → IsLine z (line.Turn (record { actor = who; times = times })) → IsReadAs z (line_text (line.Turn (record { actor = who; times = times }))) (line.Turn (record { actor = who; times = times }))
unfolding body_form allows_body turn_form sized line_of turn_line turn_rank_line times_in number_at
turn_back z (actor.Rank rank) times few is =
    let lt : rank < ranks_of z = is.0 in
    let above : 1 ≤ times = is.1 in
    let le : times ≤ 1000000 = is.2 in
    go z (codes "turn") (codes "rank" ∷ decimal rank ∷ decimal times ∷ []) body.TurnRank _ refl (λ s. refl) (refl, (refl, (clear rank (omega arith), (clear times (omega arith), tt))))
    (rw (some rank (omega arith), some times (omega arith)) refl) refl refl refl
    (rw (num 1 1000000 times above le (omega arith), below_back (ranks_of z) rank lt (omega arith)) refl)
turn_back z actor.Recoverer times few is =
    let le : times ≤ 1000000 = is.2 in
    go z (codes "turn") (codes "recoverer" ∷ decimal times ∷ []) (body.Turn actor.Recoverer) _ refl (λ s. refl) (refl, (refl, (clear times (omega arith), tt))) (rw (some times (omega arith)) refl) refl refl refl (rw (num 1 1000000 times is.1 le (omega arith)) refl)
turn_back z actor.Encoder times few is =
    let le : times ≤ 1000000 = is.2 in
    go z (codes "turn") (codes "encoder" ∷ decimal times ∷ []) (body.Turn actor.Encoder) _ refl (λ s. refl) (refl, (refl, (clear times (omega arith), tt))) (rw (some times (omega arith)) refl) refl refl refl (rw (num 1 1000000 times is.1 le (omega arith)) refl)
turn_back z actor.Flusher times few is =
    let le : times ≤ 1000000 = is.2 in
    go z (codes "turn") (codes "flusher" ∷ decimal times ∷ []) (body.Turn actor.Flusher) _ refl (λ s. refl) (refl, (refl, (clear times (omega arith), tt))) (rw (some times (omega arith)) refl) refl refl refl (rw (num 1 1000000 times is.1 le (omega arith)) refl)
turn_back z actor.Evictor times few is =
    let le : times ≤ 1000000 = is.2 in
    go z (codes "turn") (codes "evictor" ∷ decimal times ∷ []) (body.Turn actor.Evictor) _ refl (λ s. refl) (refl, (refl, (clear times (omega arith), tt))) (rw (some times (omega arith)) refl) refl refl refl (rw (num 1 1000000 times is.1 le (omega arith)) refl)

-- ## What stands between two runs

name_visible : (b : ℕ) → is_name_byte b ≡ true → is_word_byte b ≡ true
name_visible b e = grind arith

name_parts : (a b c : Bool) → (a && b && c) ≡ true → (a ≡ true) × (c ≡ true)
name_parts false b c e = cc
name_parts true false c e = cc
name_parts true true false e = cc
name_parts true true true e = (refl, refl)

name_some : (w : List ℕ) → is_name w ≡ true → is_empty w ≡ false
name_some [] e = cc
name_some (b ∷ w) e = full (b ∷ w) (omega arith)

halt_back : (z : Size) (h : HaltWord) → IsLine z (line.Item (item.Admin (command.HaltSet h))) → IsReadAs z (line_text (line.Item (item.Admin (command.HaltSet h)))) (line.Item (item.Admin (command.HaltSet h)))
unfolding body_form allows_body between_form halt_line_form halt_word sized line_of halt_line halt_of checkpoints_in great_in name_in number_at
halt_back z (halt.Checkpoints left) is =
    let le : left ≤ 4294967295 = is in
    go z (codes "halt") (codes "checkpoints" ∷ decimal left ∷ []) (body.Halt halt_form.Checkpoints) _ refl (λ s. refl) (refl, (refl, (clear left (omega arith), tt))) (rw (some left (omega arith)) refl) refl refl refl (rw (num 0 4294967295 left (omega arith) le (omega arith)) refl)
halt_back z (halt.Before at) is =
    go z (codes "halt") (codes "before" ∷ decimal at ∷ []) (body.Halt halt_form.Before) _ refl (λ s. refl) (refl, (refl, (clear at is, tt))) (rw (some at is) refl) refl refl refl (rw (num 0 9999999999 at (omega arith) is is) refl)
halt_back z (halt.After at) is =
    go z (codes "halt") (codes "after" ∷ decimal at ∷ []) (body.Halt halt_form.After) _ refl (λ s. refl) (refl, (refl, (clear at is, tt))) (rw (some at is) refl) refl refl refl (rw (num 0 9999999999 at (omega arith) is is) refl)
halt_back z (halt.Seconds seconds) is =
    go z (codes "halt") (codes "seconds" ∷ decimal seconds ∷ []) (body.Halt halt_form.Seconds) _ refl (λ s. refl) (refl, (refl, (clear seconds is, tt))) (rw (some seconds is) refl) refl refl refl (rw (num 0 9999999999 seconds (omega arith) is is) refl)
halt_back z (halt.Reason name) is =
    let named : is_name name ≡ true = is in
    let parts = name_parts (begins_well name) (nat_le (length name) 64) (list_all is_name_byte name) named in
    let clear_name : is_visible name ≡ true = all_weaker is_name_byte is_word_byte name_visible name parts.1 in
    go z (codes "halt") (codes "reason" ∷ name ∷ []) (body.Halt halt_form.Reason) _ refl (λ s. refl) (refl, (refl, (clear_name, tt))) (rw (name_some name named) refl) refl refl refl (rw named refl)

command_back : (z : Size) (c : Command) → IsLine z (line.Item (item.Admin c)) → IsReadAs z (line_text (line.Item (item.Admin c))) (line.Item (item.Admin c))
unfolding body_form allows_body between_form index_form halt_line_form sized line_of drop_line current_line id_in number_at
command_back z command.IndexList is = go z (codes "index") (codes "list" ∷ []) body.IndexList _ refl (λ s. refl) (refl, (refl, tt)) refl refl refl refl refl
command_back z (command.IndexDrop id) is =
    let above : 1 ≤ id = is.0 in
    let le : id ≤ 4294967295 = is.1 in
    go z (codes "index") (codes "drop" ∷ decimal id ∷ []) body.IndexDrop _ refl (λ s. refl) (refl, (refl, (clear id (omega arith), tt))) (rw (some id (omega arith)) refl) refl refl refl (rw (num 1 4294967295 id above le (omega arith)) refl)
command_back z (command.IndexCurrent id) is =
    let above : 1 ≤ id = is.0 in
    let le : id ≤ 4294967295 = is.1 in
    go z (codes "index") (codes "current" ∷ decimal id ∷ []) body.IndexCurrent _ refl (λ s. refl) (refl, (refl, (clear id (omega arith), tt))) (rw (some id (omega arith)) refl) refl refl refl (rw (num 1 4294967295 id above le (omega arith)) refl)
command_back z (command.HaltSet h) is = halt_back z h is
command_back z command.HaltClear is = go z (codes "halt") (codes "clear" ∷ []) body.HaltClear _ refl (λ s. refl) (refl, (refl, tt)) refl refl refl refl refl

scavenge_back : (z : Size) (pick budget : ℕ) → ((pick ≡ 0) × (budget ≡ no_cut)) ⊎ ((pick ≤ 3) × (budget ≤ 9999999999)) → IsReadAs z (line_text (line.Item (item.Scavenge pick budget))) (line.Item (item.Scavenge pick budget))
unfolding body_form allows_body between_form scavenge_form sized line_of cut_line pick_in great_in number_at
scavenge_back z pick budget (inl is) = rw (is.0, is.1) (go z (codes "scavenge") [] body.Scavenge _ refl (λ s. refl) (refl, tt) refl refl refl refl refl)
scavenge_back z pick budget (inr is) =
    let picked : pick ≤ 3 = is.0 in
    let le : budget ≤ 9999999999 = is.1 in
    let cut : (budget == no_cut) ≡ false = grind arith in
    let back : IsReadAs z (words (codes "scavenge" ∷ codes "cut" ∷ decimal pick ∷ decimal budget ∷ [])) (line.Item (item.Scavenge pick budget)) =
    go z (codes "scavenge") (codes "cut" ∷ decimal pick ∷ decimal budget ∷ []) body.ScavengeCut _ refl (λ s. refl) (refl, (refl, (clear pick (omega arith), (clear budget le, tt))))
    (rw (some pick (omega arith), some budget le) refl) refl refl refl (rw (num 0 3 pick (omega arith) picked (omega arith), num 0 9999999999 budget (omega arith) le le) refl) in
    rw cut back

lose_back : (z : Size) (node : ℕ) → node < devices_of z → devices_of z ≤ 64 → IsReadAs z (line_text (line.Item (item.Lose node))) (line.Item (item.Lose node))
unfolding body_form allows_body between_form sized line_of lose_line
lose_back z node lt few =
    go z (codes "lose") (decimal node ∷ []) body.Lose _ refl (λ s. refl) (refl, (clear node (omega arith), tt)) (rw (some node (omega arith)) refl) refl refl refl (rw (below_back (devices_of z) node lt (omega arith)) refl)

-- ## The places of a run

digit_no_comma : (b : ℕ) → is_digit b ≡ true → (b == 44) ≡ false
digit_no_comma b e = grind arith

uncomma : (n : ℕ) → n ≤ 9999999999 → All (λ b. (b == 44) ≡ false) (decimal n)
uncomma n small = none_is 44 is_digit digit_no_comma (decimal n) (digits n small)

abbrev Small : List ℕ → Type 0
Small [] = Unit {0}
Small (p ∷ ps) = (p ≤ 9999999999) × Small ps

are_small : (devices : ℕ) (before ps : List ℕ) → devices ≤ 64 → ArePlaces devices before ps → Small ps
are_small devices before [] few is = tt
are_small devices before (p ∷ ps) few is = (let lt : p < devices = is.0 in omega arith, are_small devices (before ++ p ∷ []) ps few is.2)

joined_split : (p : ℕ) (ps : List ℕ) → Small (p ∷ ps) → pieces_of 44 (numbers_joined 44 (p ∷ ps)) ≡ map decimal (p ∷ ps)
unfolding pieces_of
joined_split p [] small = slice_split_none (λ b. b == 44) (decimal p) (uncomma p small.0)
joined_split p (q ∷ ps) small = slice_split_at (λ b. b == 44) (decimal p) 44 (numbers_joined 44 (q ∷ ps)) (uncomma p small.0) refl ∙ ap (λ (ws : List (List ℕ)). decimal p ∷ ws) (joined_split q ps small.1)

joined_clear : (p : ℕ) (ps : List ℕ) → Small (p ∷ ps) → is_visible (numbers_joined 44 (p ∷ ps)) ≡ true
joined_clear p [] small = clear p small.0
joined_clear p (q ∷ ps) small = all_append is_word_byte (decimal p) (44 ∷ numbers_joined 44 (q ∷ ps)) (clear p small.0) (joined_clear q ps small.1)

longer : (xs ys : List ℕ) → 0 < length xs → 0 < length (xs ++ ys)
longer [] ys lt = absurd (omega arith)
longer (x ∷ xs) ys lt = omega arith

joined_some : (p : ℕ) (ps : List ℕ) → Small (p ∷ ps) → is_empty (numbers_joined 44 (p ∷ ps)) ≡ false
joined_some p [] small = some p small.0
joined_some p (q ∷ ps) small =
    let le : p ≤ 9999999999 = small.0 in
    full (decimal p ++ 44 ∷ numbers_joined 44 (q ∷ ps)) (longer (decimal p) (44 ∷ numbers_joined 44 (q ∷ ps)) (decimal_nonempty p (omega arith)))

places_back : (devices : ℕ) (before ps : List ℕ) → devices ≤ 64 → ArePlaces devices before ps → place_list devices before (map decimal ps) ≡ Some (before ++ ps)
unfolding place_list next_place
places_back devices before [] few is = ap (λ (ms : List ℕ). Some ms) (sym (append-nil before))
places_back devices before (p ∷ ps) few is =
    let lt : p < devices = is.0 in
    rw (below_back devices p lt (omega arith), is.1)
    (places_back devices (before ++ p ∷ []) ps few is.2 ∙ ap (λ (ms : List ℕ). Some ms) (append_assoc before (p ∷ []) ps))

as_many : (ps : List ℕ) → length (map decimal ps) ≡ length ps
as_many [] = refl
as_many (p ∷ ps) = ap suc (as_many ps)

run_back : (z : Size) (places : List ℕ) → devices_of z ≤ 64 → 1 ≤ length places → length places ≡ z.nodes → ArePlaces (devices_of z) [] places → IsReadAs z (line_text (line.Run places)) (line.Run places)
unfolding body_form allows_body sized line_of run_line
run_back z [] few one many is = absurd (omega arith)
run_back z (p ∷ ps) few one many is =
    let small : Small (p ∷ ps) = are_small (devices_of z) [] (p ∷ ps) few is in
    let whole : (length (map decimal (p ∷ ps)) == z.nodes) ≡ true = rw (as_many (p ∷ ps)) (let k : length (p ∷ ps) ≡ z.nodes = many in grind arith) in
    go z (codes "run") (numbers_joined 44 (p ∷ ps) ∷ []) body.Run _ refl (λ s. refl) (refl, (joined_clear p ps small, tt)) (rw (joined_some p ps small) refl) refl refl refl
    (rw (joined_split p ps small, whole, places_back (devices_of z) [] (p ∷ ps) few is) refl)

-- ## Stops

-- behind a word and a blank
position_front : (w rest : List ℕ) → is_visible w ≡ true → position_or_len (λ b. b == 32) (w ++ 32 ∷ rest) ≡ length w
position_front [] rest e = refl
position_front (b ∷ w) rest e = rw (not_blank b (left_true (is_word_byte b) (is_visible w) e), position_front w rest (right_true (is_word_byte b) (is_visible w) e)) (omega arith)

drop_past : (w : List ℕ) (c : ℕ) (rest : List ℕ) → drop (suc (length w)) (w ++ c ∷ rest) ≡ rest
drop_past [] c rest = refl
drop_past (b ∷ w) c rest = drop_past w c rest

within : (w : List ℕ) (c : ℕ) (rest : List ℕ) → length w < length (w ++ c ∷ rest)
within [] c rest = omega arith
within (b ∷ w) c rest = let k = within w c rest in omega arith

behind : (w rest : List ℕ) → is_visible w ≡ true → behind_word (w ++ 32 ∷ rest) ≡ rest
unfolding behind_word cut_at
behind w rest e = rw (position_front w rest e, lt_says (length w) (length (w ++ 32 ∷ rest)) (within w 32 rest), add-one) (drop_past w 32 rest)

some_words : (text : List ℕ) → 1 ≤ length (words_of text)
unfolding pieces_of
some_words text = by_words (words_of text) refl
  where
    by_words : (ws : List (List ℕ)) → words_of text ≡ ws → 1 ≤ length ws
    by_words (w ∷ ws) e = omega arith
    by_words [] e =
        let none : text ≡ [] = sym (join_with_byte-slice_split 32 text) ∙ ap (join_with_byte 32) e in
        let one : words_of [] ≡ [] ∷ [] = slice_split_none (λ b. b == 32) [] (unblank [] refl) in
        let no : [] ≡ [] ∷ [] = sym e ∙ ap words_of none ∙ one in
        absurd (cc no)

on_back : (z : Size) (pick : ℕ) (text : List ℕ) → pick ≤ 3 → IsStopText text → IsReadAs z (line_text (line.Stop (record { pick = pick; place = place.On text }))) (line.Stop (record { pick = pick; place = place.On text }))
unfolding pieces_of body_form allows_body stop_form stop_text line_of stop_line place_of pick_in number_at
on_back z pick text le is =
    let whole = words (codes "stop" ∷ decimal pick ∷ codes "on" ∷ text ∷ []) in
    let bytes : list_all is_text whole ≡ true =
    all_append is_text (codes "stop ") (decimal pick ++ 32 ∷ (codes "on" ++ 32 ∷ text)) refl
    (all_append is_text (decimal pick) (32 ∷ (codes "on" ++ 32 ∷ text)) (words_text (decimal pick) [] (clear pick (omega arith), tt)) is.bytes) in
    let pick_clear : is_visible (decimal pick) ≡ true = clear pick (omega arith) in
    let third : words_of (codes "on" ++ 32 ∷ text) ≡ codes "on" ∷ words_of text = slice_split_at (λ b. b == 32) (codes "on") 32 text (unblank (codes "on") refl) refl in
    let second : words_of (decimal pick ++ 32 ∷ (codes "on" ++ 32 ∷ text)) ≡ decimal pick ∷ codes "on" ∷ words_of text = slice_split_at (λ b. b == 32) (decimal pick) 32 (codes "on" ++ 32 ∷ text) (unblank (decimal pick) pick_clear) refl ∙ ap (λ (ws : List (List ℕ)). decimal pick ∷ ws) third in
    let split : words_of whole ≡ codes "stop" ∷ decimal pick ∷ codes "on" ∷ words_of text = slice_split_at (λ b. b == 32) (codes "stop") 32 (decimal pick ++ 32 ∷ (codes "on" ++ 32 ∷ text)) (unblank (codes "stop") refl) refl ∙ ap (λ (ws : List (List ℕ)). codes "stop" ∷ ws) second in
    let rest : stop_text whole ≡ text = rw (behind (codes "stop") (decimal pick ++ 32 ∷ (codes "on" ++ 32 ∷ text)) refl, behind (decimal pick) (codes "on" ++ 32 ∷ text) pick_clear) (behind (codes "on") text refl) in
    let four : nat_le 4 (length (codes "stop" ∷ decimal pick ∷ codes "on" ∷ words_of text)) ≡ true = le_says 4 (length (codes "stop" ∷ decimal pick ∷ codes "on" ∷ words_of text)) (let k = some_words text in omega arith) in
    let short : nat_le (length text) 200 ≡ true = le_says (length text) 200 is.short in
    go_split z whole (codes "stop") (decimal pick ∷ codes "on" ∷ words_of text) (body.Stop place_form.On) _ refl (λ s. refl) bytes split (rw (some pick (omega arith), is.full) refl) refl refl
    (rw (four, rest, short) refl) (rw (num 0 3 pick (omega arith) le (omega arith), rest) refl)

stop_back : (z : Size) (pick : ℕ) (at : StopPlace) → IsLine z (line.Stop (record { pick = pick; place = at })) → IsReadAs z (line_text (line.Stop (record { pick = pick; place = at }))) (line.Stop (record { pick = pick; place = at }))
unfolding body_form allows_body stop_form sized line_of stop_line place_of pick_in great_in number_at
stop_back z pick place.End is =
    let le : pick ≤ 3 = is.0 in
    go z (codes "stop") (decimal pick ∷ codes "end" ∷ []) (body.Stop place_form.End) _ refl (λ s. refl) (refl, (clear pick (omega arith), (refl, tt))) (rw (some pick (omega arith)) refl) refl refl refl
    (rw (num 0 3 pick (omega arith) le (omega arith)) refl)
stop_back z pick (place.After moves) is =
    let le : pick ≤ 3 = is.0 in
    let few : moves ≤ 9999999999 = is.1 in
    go z (codes "stop") (decimal pick ∷ codes "after" ∷ decimal moves ∷ []) (body.Stop place_form.After) _ refl (λ s. refl) (refl, (clear pick (omega arith), (refl, (clear moves few, tt)))) (rw (some pick (omega arith), some moves few) refl) refl refl refl
    (rw (num 0 3 pick (omega arith) le (omega arith), num 0 9999999999 moves (omega arith) few few) refl)
stop_back z pick (place.On text) is = on_back z pick text is.0 is.1

-- ## Each line

record Bounds (z : Size) : Type 0 where
  ranks : ranks_of z ≤ 64
  devices : devices_of z ≤ 64

four_parts : (a b c d : Bool) → (a && b && c && d) ≡ true → (a ≡ true) × (c ≡ true) × (d ≡ true)
four_parts false b c d e = cc
four_parts true false c d e = cc
four_parts true true false d e = cc
four_parts true true true false e = cc
four_parts true true true true e = (refl, refl, refl)

bounds : (z : Size) → is_site z.nodes z.ranks z.spares ≡ true → Bounds z
bounds z site =
    let p = four_parts (is_in 1 16 z.nodes) (is_in 1 8 z.ranks) (nat_le z.spares 16) (nat_le (z.nodes * z.ranks) 64) site in
    let nodes : z.nodes ≤ 16 = le_is z.nodes 16 (right_true (nat_le 1 z.nodes) (nat_le z.nodes 16) p.0) in
    let spares : z.spares ≤ 16 = le_is z.spares 16 p.1 in
    record { ranks = le_is (z.nodes * z.ranks) 64 p.2; devices = omega arith }

pub line_back : (z : Size) (l : Line) → is_site z.nodes z.ranks z.spares ≡ true → IsLine z l → IsReadAs z (line_text l) l
line_back z (line.Run places) site is = run_back z places (bounds z site).devices is.0 is.1 is.2
line_back z (line.Rank given) site is = rank_back z (line.Rank given) given.first given.last given.step refl is.0 is.1 (bounds z site).ranks is.2
line_back z (line.Turn turn) site is = turn_back z turn.actor turn.times (bounds z site).ranks is
line_back z (line.Stop stop) site is = stop_back z stop.pick stop.place is
line_back z (line.Item (item.Lose node)) site is = lose_back z node is (bounds z site).devices
line_back z (line.Item (item.Scavenge pick budget)) site is = scavenge_back z pick budget is
line_back z (line.Item (item.Admin c)) site is = command_back z c is
line_back z (line.Item (item.Run run)) site is = absurd is
