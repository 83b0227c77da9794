-- What was printed is read again: numbers, names, answers and causes.
use Rattle.std.proofs.Common.{◌≡◌, ℕ, zero, suc, ◌+◌, ◌*◌, ◌/◌, ◌%◌, ◌<◌, ◌≤◌, ◌^◌, nat_le, Bool, true, false, List, [], ◌∷◌, ◌++◌, map, length, Option, Some, None, refl, ap, ◌∙◌, arith, bytes_eq, decimal, codes}
use Rattle.std.specs.Prelude.{IsTrue}
use Rattle.std.specs.Fmt.{digits}
use Rattle.std.specs.List.{AllByRecursion, join_with_byte}
use Rattle.std.proofs.lemmas.Bool.Decides.{nat_tests}
use Rattle.scr_base.specs.Words.{is_name, is_word}
use Rattle.scr_base.specs.declared.shape.DataId.{DataId}
use Rattle.scr_base.specs.declared.shape.Flags.{Flags}
use Rattle.scr_base.specs.declared.shape.Flags.TheVariants.{Ckpt, Output, Both}
use Rattle.scr_base.specs.declared.answers.Phase.{Phase}
use Rattle.scr_base.specs.declared.answers.Phase.TheVariants as phase
use Rattle.scr_base.specs.declared.answers.Reason.{Reason}
use Rattle.scr_base.specs.declared.answers.Reason.TheVariants as reason
use Rattle.scr_base.specs.declared.answers.Refusal.{Refusal}
use Rattle.scr_base.specs.declared.answers.Refusal.TheVariants as refusal
use Rattle.scr_base.specs.declared.answers.Reply.{Reply}
use Rattle.scr_base.specs.declared.answers.Reply.TheVariants as reply
use Rattle.ckpt_model.specs.declared.event.Kind.{Kind}
use Rattle.ckpt_model.specs.declared.event.Kind.TheVariants as kind
use Rattle.ckpt_model.specs.declared.event.StopCause.{StopCause}
use Rattle.ckpt_model.specs.declared.event.StopCause.TheVariants as cause
use Rattle.ckpt_model.specs.declared.event.GivenUpCause.{GivenUpCause}
use Rattle.ckpt_model.specs.declared.event.GivenUpCause.TheVariants as given_up
use Rattle.ckpt_model.specs.declared.event.CommandAnswer.{CommandAnswer}
use Rattle.ckpt_model.specs.declared.event.CommandAnswer.TheVariants as answer
use Rattle.ckpt_model.specs.Text.{answer_text, bytes_text, cause_text, given_up_text, flags_text, hex_digit, hex_text, id_text, kind_text, lost_text, phase_text, reason_text, refusal_text, reply_text, state_text, valid_text}
use Rattle.history_reader.specs.Part.{IsPart, IsPartOf}
use Rattle.history_reader.specs.Reading.{◌>>=◌, cut_at, parts, each_read, read_number, read_below, read_byte, read_id, read_place, read_device, read_full, read_part, read_name, read_word, read_digit, read_pair, read_pairs, read_hex, read_bytes, read_lost, read_flags, read_valid, read_state, read_phase, read_reason, read_kind, read_bare_refusal, read_full_refusal, read_bare_reply, read_routed, read_worded_reply, read_full_reply, read_reply, read_prefix_device, read_prefix_full, read_bare_answer, read_full_answer, read_answer, read_bare_cause, read_full_cause, read_cause, read_given_up}
use Rattle.history_reader.specs.Spelled.{IsSpelledReply, FitsId, FitsBytes, FitsPlace, FitsDevice, FitsFull, FitsRefusal, FitsReply, FitsAnswer, FitsCause, FitsGivenUp}
use Rattle.history_reader.proofs.CutLaws.{cut_here, cut_nowhere, lacks, parts_joined}
use Rattle.history_reader.proofs.NumberLaws.{are_same, below_again, number_again}
use Rattle.history_reader.proofs.Classes.{decimal_lacks, each_lacks, id_is, id_lacks}

-- where reading a literal gives nothing and reading a text gives something, the text isn't the literal
pub not_literal : {X : Type 0} (read : List ℕ → Option X) (literal text : List ℕ) (x : X) → read literal ≡ None → read text ≡ Some x → bytes_eq text literal ≡ false
not_literal {X = X} read literal text x none some = by_test (bytes_eq text literal) refl
  where
    apart : (o : Option X) → o ≡ None → o ≡ Some x → bytes_eq text literal ≡ false
    apart o p q = absurd cc

    by_test : (t : Bool) → bytes_eq text literal ≡ t → bytes_eq text literal ≡ false
    by_test false e = e
    by_test true e =
        let is : text ≡ literal = are_same text literal e in
        apart (read text) (ap read is ∙ none) some

pub byte_again : (n : ℕ) → n < 2 ^ 8 → read_byte (decimal n) ≡ Some n
byte_again n lt = below_again (2 ^ 8) n lt (omega arith)

pub medium_again : (n : ℕ) → n < 2 ^ 32 → read_below (2 ^ 32) (decimal n) ≡ Some n
medium_again n lt = below_again (2 ^ 32) n lt (omega arith)

pub id_again : (which : DataId) → FitsId which → read_id (id_text which) ≡ Some which
unfolding read_id
id_again which fits =
    ap read_id (id_is which)
    ∙ rw (
      cut_here 46 (decimal which.id) (decimal which.run) (decimal_lacks 46 which.id refl (omega (arith, fits.0))),
      medium_again which.id fits.0,
      medium_again which.run fits.1,
    ) refl

pub place_again : (rank number : ℕ) (rest : List ℕ) → FitsPlace rank number → read_place (decimal rank ++ 32 ∷ (decimal number ++ 32 ∷ rest)) ≡ Some (rank, (number, rest))
unfolding read_place
place_again rank number rest fits =
    rw (
      cut_here 32 (decimal rank) (decimal number ++ 32 ∷ rest) (decimal_lacks 32 rank refl (omega (arith, fits.0))),
      cut_here 32 (decimal number) rest (decimal_lacks 32 number refl (omega (arith, fits.1))),
      byte_again rank fits.0,
      medium_again number fits.1,
    ) refl

pub device_again : (node count : ℕ) → FitsDevice node count → read_device (decimal node ++ 32 ∷ decimal count) ≡ Some (node, count)
unfolding read_device
device_again node count fits =
    rw (
      cut_here 32 (decimal node) (decimal count) (decimal_lacks 32 node refl (omega (arith, fits.0))),
      byte_again node fits.0,
      number_again count fits.1,
    ) refl

pub full_again : (node used capacity : ℕ) → FitsFull node used capacity → read_full (decimal node ++ 32 ∷ (decimal used ++ 32 ∷ decimal capacity)) ≡ Some (node, (used, capacity))
unfolding read_full
full_again node used capacity fits =
    rw (
      cut_here 32 (decimal node) (decimal used ++ 32 ∷ decimal capacity) (decimal_lacks 32 node refl (omega (arith, fits.0))),
      cut_here 32 (decimal used) (decimal capacity) (decimal_lacks 32 used refl (omega (arith, fits.1.0))),
      byte_again node fits.0,
      number_again used fits.1.0,
      number_again capacity fits.1.1,
    ) refl

pub prefix_device_again : (count : ℕ) → count < 2 ^ 64 → read_prefix_device (decimal 32 ++ 32 ∷ decimal count) ≡ Some count
unfolding read_prefix_device
prefix_device_again count fits = rw (device_again 32 count (omega arith, fits)) refl

pub prefix_full_again : (used capacity : ℕ) → used < 2 ^ 64 → capacity < 2 ^ 64 → read_prefix_full (decimal 32 ++ 32 ∷ (decimal used ++ 32 ∷ decimal capacity)) ≡ Some (used, capacity)
unfolding read_prefix_full
prefix_full_again used capacity p q = rw (full_again 32 used capacity (omega arith, (p, q))) refl

pub name_again : (name : List ℕ) → IsTrue (is_name name) → read_name name ≡ Some name
unfolding read_name
name_again name h = rw h refl

pub word_again : (word : List ℕ) → IsTrue (is_word word) → read_word word ≡ Some word
unfolding read_word
word_again word h = rw h refl

-- ---- the name of a part

is_up_to : (n m : ℕ) → n ≤ m → nat_le n m ≡ true
is_up_to n m le = grind (arith, nat_tests)

-- the numbers of a part, as they are read
abbrev part_bytes : ℕ → ℕ → ℕ → ℕ → ℕ → List ℕ
part_bytes id run node rank file = 100 ∷ 46 ∷ (decimal id ++ 46 ∷ (decimal run ++ 46 ∷ (decimal node ++ 46 ∷ 102 ∷ 46 ∷ (decimal rank ++ 46 ∷ decimal file))))

part_is_read : (id run node rank file : ℕ) → 1 ≤ id → id < 2 ^ 32 → 1 ≤ run → run < 2 ^ 32 → node ≤ 15 → rank ≤ 7 → file ≤ 15 → read_part (part_bytes id run node rank file) ≡ Some (id, (run, (node, (rank, file))))
unfolding read_part
part_is_read id run node rank file a b d e f g h =
    rw (
      cut_here 46 (codes "d") (decimal id ++ 46 ∷ (decimal run ++ 46 ∷ (decimal node ++ 46 ∷ 102 ∷ 46 ∷ (decimal rank ++ 46 ∷ decimal file)))) refl,
      cut_here 46 (decimal id) (decimal run ++ 46 ∷ (decimal node ++ 46 ∷ 102 ∷ 46 ∷ (decimal rank ++ 46 ∷ decimal file))) (decimal_lacks 46 id refl (omega arith)),
      cut_here 46 (decimal run) (decimal node ++ 46 ∷ 102 ∷ 46 ∷ (decimal rank ++ 46 ∷ decimal file)) (decimal_lacks 46 run refl (omega arith)),
      cut_here 46 (decimal node) (102 ∷ 46 ∷ (decimal rank ++ 46 ∷ decimal file)) (decimal_lacks 46 node refl (omega arith)),
      cut_here 46 (codes "f") (decimal rank ++ 46 ∷ decimal file) refl,
      cut_here 46 (decimal rank) (decimal file) (decimal_lacks 46 rank refl (omega arith)),
      medium_again id b,
      medium_again run e,
      byte_again node (omega arith),
      byte_again rank (omega arith),
      byte_again file (omega arith),
      is_up_to 1 id a,
      is_up_to 1 run d,
      is_up_to node 15 f,
      is_up_to rank 7 g,
      is_up_to file 15 h,
    ) refl

-- a part begins as no identity does
part_is_no_id : (rest : List ℕ) → read_id (100 ∷ 46 ∷ rest) ≡ None
unfolding read_id cut_at read_below read_number digits
part_is_no_id rest = refl

pub routed_again : (part : List ℕ) → IsPart part → read_id part ≡ None × (read_routed part ≡ Some (reply.Routed part))
unfolding read_routed
routed_again part is =
    let id = is.0 in
    let run = is.1 in
    let node = is.2 in
    let rank = is.3 in
    let file = is.4 in
    let p : IsPartOf part id run node rank file = is.5 in
    let spelled : part ≡ part_bytes id run node rank file = p.spelled in (
      ap read_id spelled ∙ part_is_no_id (decimal id ++ 46 ∷ (decimal run ++ 46 ∷ (decimal node ++ 46 ∷ 102 ∷ 46 ∷ (decimal rank ++ 46 ∷ decimal file)))),
      rw (ap read_part spelled ∙ part_is_read id run node rank file p.id_from p.id_below p.run_from p.run_below p.node_up_to p.rank_up_to p.file_up_to) refl,
    )

-- ---- hexadecimal

digit_again : (d : ℕ) → d < 16 → read_digit (hex_digit d) ≡ Some d
unfolding read_digit
digit_again zero lt = refl
digit_again (suc zero) lt = refl
digit_again (suc (suc zero)) lt = refl
digit_again (suc (suc (suc zero))) lt = refl
digit_again (suc (suc (suc (suc zero)))) lt = refl
digit_again (suc (suc (suc (suc (suc zero))))) lt = refl
digit_again (suc (suc (suc (suc (suc (suc zero)))))) lt = refl
digit_again (suc (suc (suc (suc (suc (suc (suc zero))))))) lt = refl
digit_again (suc (suc (suc (suc (suc (suc (suc (suc zero)))))))) lt = refl
digit_again (suc (suc (suc (suc (suc (suc (suc (suc (suc zero))))))))) lt = refl
digit_again (suc (suc (suc (suc (suc (suc (suc (suc (suc (suc zero)))))))))) lt = refl
digit_again (suc (suc (suc (suc (suc (suc (suc (suc (suc (suc (suc zero))))))))))) lt = refl
digit_again (suc (suc (suc (suc (suc (suc (suc (suc (suc (suc (suc (suc zero)))))))))))) lt = refl
digit_again (suc (suc (suc (suc (suc (suc (suc (suc (suc (suc (suc (suc (suc zero))))))))))))) lt = refl
digit_again (suc (suc (suc (suc (suc (suc (suc (suc (suc (suc (suc (suc (suc (suc zero)))))))))))))) lt = refl
digit_again (suc (suc (suc (suc (suc (suc (suc (suc (suc (suc (suc (suc (suc (suc (suc zero))))))))))))))) lt = refl
digit_again (suc (suc (suc (suc (suc (suc (suc (suc (suc (suc (suc (suc (suc (suc (suc (suc d)))))))))))))))) lt = absurd (omega arith)

pair_again : (b : ℕ) → b < 2 ^ 8 → read_pair (hex_digit (b / 16)) (hex_digit (b % 16)) ≡ Some b
unfolding read_pair
pair_again b lt =
    let whole : 16 * (b / 16) + b % 16 ≡ b = omega arith in
    rw (digit_again (b / 16) (omega arith), digit_again (b % 16) (omega arith)) (ap Some whole)

pairs_again : (bytes : List ℕ) → FitsBytes bytes → read_pairs (hex_text bytes) ≡ Some bytes
unfolding read_pairs
pairs_again [] fits = refl
pairs_again (b ∷ bs) fits = rw (pair_again b fits.0, pairs_again bs fits.1) refl

pub hex_again : (bytes : List ℕ) → 0 < length bytes → FitsBytes bytes → read_hex (hex_text bytes) ≡ Some bytes
unfolding read_hex
hex_again [] some fits = absurd (omega arith)
hex_again (b ∷ bs) some fits = pairs_again (b ∷ bs) fits

no_dash : read_hex (codes "-") ≡ None
unfolding read_hex read_pairs
no_dash = refl

pub bytes_again : (bytes : List ℕ) → FitsBytes bytes → read_bytes (bytes_text bytes) ≡ Some bytes
unfolding read_bytes
bytes_again [] fits = refl
bytes_again (b ∷ bs) fits =
    let h = hex_again (b ∷ bs) (omega arith) fits in
    rw (not_literal read_hex (codes "-") (hex_text (b ∷ bs)) (b ∷ bs) no_dash h) h

-- ---- lists of numbers, and rows

pub each_again : {X : Type 0} (read : List ℕ → Option X) (text : X → List ℕ) (P : X → Type 0) → ((x : X) → P x → read (text x) ≡ Some x) → (xs : List X) → AllByRecursion P xs → each_read read (map text xs) ≡ Some xs
each_again read text P each [] all = refl
each_again read text P each (x ∷ xs) all = rw (each x all.0, each_again read text P each xs all.1) refl

pub joined_again : {X : Type 0} (c : ℕ) (read : List ℕ → Option X) (text : X → List ℕ) (P : X → Type 0) → ((x : X) → P x → lacks c (text x) ≡ true) → ((x : X) → P x → read (text x) ≡ Some x) → (x : X) (xs : List X) → AllByRecursion P (x ∷ xs) → each_read read (parts c (join_with_byte c (map text (x ∷ xs)))) ≡ Some (x ∷ xs)
joined_again c read text P without each x xs all =
    ap (each_read read) (parts_joined c text x xs (each_lacks c text P without (x ∷ xs) all))
    ∙ each_again read text P each (x ∷ xs) all

pub numbers_again : (c : ℕ) (n : ℕ) (ns : List ℕ) → ((m : ℕ) → m < 2 ^ 8 → lacks c (decimal m) ≡ true) → FitsBytes (n ∷ ns) → each_read read_byte (parts c (join_with_byte c (map decimal (n ∷ ns)))) ≡ Some (n ∷ ns)
numbers_again c n ns without fits = joined_again c read_byte decimal (λ b. b < 2 ^ 8) without byte_again n ns fits

no_dash_among_numbers : each_read read_byte (parts 43 (codes "-")) ≡ None
unfolding read_below read_number digits
no_dash_among_numbers = refl

pub lost_again : (lost : List ℕ) → FitsBytes lost → read_lost (lost_text lost) ≡ Some lost
unfolding read_lost
lost_again [] fits = refl
lost_again (n ∷ ns) fits =
    let h = numbers_again 43 n ns (λ m lt. decimal_lacks 43 m refl (omega arith)) fits in
    rw (not_literal (λ bs. each_read read_byte (parts 43 bs)) (codes "-") (lost_text (n ∷ ns)) (n ∷ ns) no_dash_among_numbers h) h

-- ---- words

pub flags_again : (flags : Flags) → read_flags (flags_text flags) ≡ Some flags
unfolding read_flags
flags_again Ckpt = refl
flags_again Output = refl
flags_again Both = refl

pub valid_again : (valid : Bool) → read_valid (valid_text valid) ≡ Some valid
unfolding read_valid
valid_again true = refl
valid_again false = refl

pub state_again : (failed : Bool) → read_state (state_text failed) ≡ Some failed
unfolding read_state
state_again true = refl
state_again false = refl

phase_again : (p : Phase) → read_phase (phase_text p) ≡ Some p
unfolding read_phase
phase_again phase.Idle = refl
phase_again phase.Output = refl
phase_again phase.Offered = refl
phase_again phase.Restart = refl
phase_again phase.Final = refl

reason_again : (r : Reason) → read_reason (reason_text r) ≡ Some r
unfolding read_reason
reason_again reason.Reason = refl
reason_again reason.Checkpoints = refl
reason_again reason.After = refl
reason_again reason.Before = refl

pub kind_again : (k : Kind) → read_kind (kind_text k) ≡ Some k
unfolding read_kind
kind_again kind.Need = refl
kind_again kind.Start = refl
kind_again kind.Complete = refl
kind_again kind.Have = refl
kind_again kind.Restart = refl
kind_again kind.Restarted = refl
kind_again kind.Exit = refl
kind_again kind.Finalize = refl
kind_again kind.End = refl

pub kind_lacks : (k : Kind) → lacks 32 (kind_text k) ≡ true
kind_lacks kind.Need = refl
kind_lacks kind.Start = refl
kind_lacks kind.Complete = refl
kind_lacks kind.Have = refl
kind_lacks kind.Restart = refl
kind_lacks kind.Restarted = refl
kind_lacks kind.Exit = refl
kind_lacks kind.Finalize = refl
kind_lacks kind.End = refl

-- ---- answers of calls

-- a reply of more than one word, of which the first is no identity
worded : (w rest : List ℕ) → lacks 32 w ≡ true → read_id w ≡ None → read_reply (w ++ 32 ∷ rest) ≡ read_worded_reply w rest
unfolding read_reply read_full_reply
worded w rest without no_id = rw (cut_here 32 w rest without, no_id) refl

-- the words with which such a reply begins are no identities
ok_no_id : read_id (codes "ok") ≡ None
unfolding read_id cut_at
ok_no_id = refl

yes_no_id : read_id (codes "yes") ≡ None
unfolding read_id cut_at
yes_no_id = refl

bytes_no_id : read_id (codes "bytes") ≡ None
unfolding read_id cut_at
bytes_no_id = refl

mismatch_no_id : read_id (codes "mismatch") ≡ None
unfolding read_id cut_at
mismatch_no_id = refl

phase_no_id : read_id (codes "phase") ≡ None
unfolding read_id cut_at
phase_no_id = refl

taken_no_id : read_id (codes "taken") ≡ None
unfolding read_id cut_at
taken_no_id = refl

device_no_id : read_id (codes "device") ≡ None
unfolding read_id cut_at
device_no_id = refl

full_no_id : read_id (codes "full") ≡ None
unfolding read_id cut_at
full_no_id = refl

bad_name : read_reply (codes "badname") ≡ Some (reply.Refused refusal.BadName)
unfolding read_reply cut_at read_bare_reply read_bare_refusal
bad_name = refl

no_file : read_reply (codes "nofile") ≡ Some (reply.Refused refusal.NoFile)
unfolding read_reply cut_at read_bare_reply read_bare_refusal
no_file = refl

limit : read_reply (codes "limit") ≡ Some (reply.Refused refusal.Limit)
unfolding read_reply cut_at read_bare_reply read_bare_refusal
limit = refl

refusal_again : (r : Refusal) → FitsRefusal r → read_reply (refusal_text r) ≡ Some (reply.Refused r)
unfolding read_worded_reply read_full_refusal
refusal_again (refusal.Mismatch rank) fits = worded (codes "mismatch") (decimal rank) refl mismatch_no_id ∙ rw (byte_again rank fits) refl
refusal_again (refusal.Phase p) fits = worded (codes "phase") (phase_text p) refl phase_no_id ∙ rw (phase_again p) refl
refusal_again refusal.BadName fits = bad_name
refusal_again (refusal.Device node count) fits = worded (codes "device") (decimal node ++ 32 ∷ decimal count) refl device_no_id ∙ rw (device_again node count fits) refl
refusal_again (refusal.Full node used capacity) fits = worded (codes "full") (decimal node ++ 32 ∷ (decimal used ++ 32 ∷ decimal capacity)) refl full_no_id ∙ rw (full_again node used capacity fits) refl
refusal_again refusal.NoFile fits = no_file
refusal_again refusal.Limit fits = limit
refusal_again (refusal.NameTaken which) fits = worded (codes "taken") (id_text which) refl taken_no_id ∙ rw (id_again which fits) refl

offer_again : (which : DataId) (name : List ℕ) → FitsId which → IsTrue (is_name name) → read_reply (id_text which ++ 32 ∷ name) ≡ Some (reply.Offer which name)
unfolding read_reply read_full_reply
offer_again which name fits named = rw (cut_here 32 (id_text which) name (id_lacks 32 which refl fits), id_again which fits, name_again name named) refl

-- a reply of one word
bare : (w : List ℕ) → lacks 32 w ≡ true → read_reply w ≡ read_bare_reply w
unfolding read_reply
bare w without = rw (cut_nowhere 32 w without) refl

pub reply_again : (a : Reply) → IsSpelledReply a → FitsReply a → read_reply (reply_text a) ≡ Some a
unfolding read_bare_reply read_worded_reply
reply_again reply.Done spelled fits = bare (codes "ok") refl
reply_again reply.Yes spelled fits = bare (codes "yes") refl
reply_again reply.No spelled fits = bare (codes "no") refl
reply_again (reply.Exit r) spelled fits = worded (codes "yes") (reason_text r) refl yes_no_id ∙ rw (reason_again r) refl
reply_again (reply.Started which) spelled fits = worded (codes "ok") (id_text which) refl ok_no_id ∙ rw (id_again which fits) refl
reply_again reply.Kept spelled fits = bare (codes "kept") refl
reply_again reply.NotKept spelled fits = bare (codes "notkept") refl
reply_again reply.NoneLeft spelled fits = bare (codes "none") refl
reply_again (reply.Offer which name) spelled fits = offer_again which name fits.0 fits.1
reply_again reply.Failed spelled fits = bare (codes "failed") refl
reply_again (reply.Routed part) spelled fits =
    let p = routed_again part spelled in worded (codes "ok") part refl ok_no_id ∙ rw (p.0, p.1) refl
reply_again (reply.Bytes bytes) spelled fits = worded (codes "bytes") (bytes_text bytes) refl bytes_no_id ∙ rw (bytes_again bytes fits) refl
reply_again (reply.Refused r) spelled fits = refusal_again r fits

-- ---- answers of commands, and causes

device_cut : (rest : List ℕ) → cut_at 32 (codes "device " ++ rest) ≡ Some (codes "device", rest)
device_cut rest = cut_here 32 (codes "device") rest refl

full_cut : (rest : List ℕ) → cut_at 32 (codes "full " ++ rest) ≡ Some (codes "full", rest)
full_cut rest = cut_here 32 (codes "full") rest refl

pub answer_again : (a : CommandAnswer) → FitsAnswer a → read_answer (answer_text a) ≡ Some a
unfolding read_answer read_bare_answer read_full_answer
answer_again answer.Done fits = rw (cut_nowhere 32 (codes "ok") refl) refl
answer_again answer.NoEntry fits = rw (cut_nowhere 32 (codes "noentry") refl) refl
answer_again (answer.Device count) fits = rw (device_cut (decimal 32 ++ 32 ∷ decimal count), prefix_device_again count fits) refl
answer_again (answer.Full used capacity) fits = rw (full_cut (decimal 32 ++ 32 ∷ (decimal used ++ 32 ∷ decimal capacity)), prefix_full_again used capacity fits.0 fits.1) refl

pub cause_again : (why : StopCause) → FitsCause why → read_cause (cause_text why) ≡ Some why
unfolding read_cause read_bare_cause read_full_cause
cause_again cause.Ended fits = rw (cut_nowhere 32 (codes "ended") refl) refl
cause_again cause.Script fits = rw (cut_nowhere 32 (codes "script") refl) refl
cause_again (cause.Device node count) fits = rw (device_cut (decimal node ++ 32 ∷ decimal count), device_again node count fits) refl
cause_again (cause.Full node used capacity) fits = rw (full_cut (decimal node ++ 32 ∷ (decimal used ++ 32 ∷ decimal capacity)), full_again node used capacity fits) refl
cause_again cause.Runs fits = rw (cut_nowhere 32 (codes "runs") refl) refl
cause_again cause.Command fits = rw (cut_nowhere 32 (codes "command") refl) refl

-- the word and the rest of a cause
pub given_up_again : (why : GivenUpCause) → FitsGivenUp why → (cut_at 32 (given_up_text why) >>= λ p. read_given_up p.0 p.1) ≡ Some why
unfolding read_given_up
given_up_again (given_up.Device node count) fits = rw (device_cut (decimal node ++ 32 ∷ decimal count), device_again node count fits) refl
given_up_again (given_up.Full node used capacity) fits = rw (full_cut (decimal node ++ 32 ∷ (decimal used ++ 32 ∷ decimal capacity)), full_again node used capacity fits) refl
