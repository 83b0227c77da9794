-- What each part of a line is read as: a value, or none.
use Rattle.std.specs.Prelude.{◌≡◌, ℕ, ◌+◌, ◌*◌, ◌^◌, ◌-◌, ◌==◌, ◌&&◌, Bool, true, false, List, [], ◌∷◌, Option, Some, None, Result, Ok, Err, option_and_then, option_map, if◌then◌else◌, codes, decimal, bytes_eq, nat_le, nat_lt}
use Rattle.std.specs.List.{slice_split}
use Rattle.std.specs.Str.Parse.{digits_value}
use Rattle.scr_base.specs.Words.{is_name, is_word}
use Rattle.scr_base.specs.declared.shape.DataId.{DataId}
use Rattle.scr_base.specs.declared.shape.Flags.{Flags}
use Rattle.scr_base.specs.declared.shape.Flags.TheVariants.{Ckpt, Output, Both}
use Rattle.scr_base.specs.declared.answers.Phase.{Phase}
use Rattle.scr_base.specs.declared.answers.Phase.TheVariants as phase
use Rattle.scr_base.specs.declared.answers.Reason.{Reason}
use Rattle.scr_base.specs.declared.answers.Reason.TheVariants as reason
use Rattle.scr_base.specs.declared.answers.Refusal.{Refusal}
use Rattle.scr_base.specs.declared.answers.Refusal.TheVariants as refusal
use Rattle.scr_base.specs.declared.answers.Reply.{Reply}
use Rattle.scr_base.specs.declared.answers.Reply.TheVariants as reply
use Rattle.scr_base.specs.declared.content.Content.{Content}
use Rattle.scr_base.specs.declared.content.Content.TheVariants as content
use Rattle.scr_base.specs.declared.content.HaltWord.{HaltWord}
use Rattle.scr_base.specs.declared.content.HaltWord.TheVariants as halt
use Rattle.scr_base.specs.declared.content.ListRow.{ListRow}
use Rattle.scr_base.specs.declared.content.Step.{Step}
use Rattle.scr_base.specs.declared.content.Step.TheVariants as step
use Rattle.ckpt_model.specs.declared.event.FoundRow.{FoundRow}
use Rattle.ckpt_model.specs.declared.event.EntryRow.{EntryRow}
use Rattle.ckpt_model.specs.declared.event.Kind.{Kind}
use Rattle.ckpt_model.specs.declared.event.Kind.TheVariants as kind
use Rattle.ckpt_model.specs.declared.event.StopCause.{StopCause}
use Rattle.ckpt_model.specs.declared.event.StopCause.TheVariants as cause
use Rattle.ckpt_model.specs.declared.event.GivenUpCause.{GivenUpCause}
use Rattle.ckpt_model.specs.declared.event.GivenUpCause.TheVariants as given_up
use Rattle.ckpt_model.specs.declared.event.CommandAnswer.{CommandAnswer}
use Rattle.ckpt_model.specs.declared.event.CommandAnswer.TheVariants as answer
use Rattle.ckpt_model.specs.declared.event.IndexNote.{IndexNote}
use Rattle.ckpt_model.specs.declared.event.IndexNote.TheVariants as note
use Rattle.ckpt_model.specs.declared.event.ScavAnswer.{ScavAnswer}
use Rattle.ckpt_model.specs.declared.event.ScavAnswer.TheVariants as scavenged
use Rattle.ckpt_model.specs.declared.event.Event.{Event}
use Rattle.ckpt_model.specs.declared.event.Event.TheVariants as event
use Rattle.history_reader.specs.declared.fault.Fault.{Fault}
use Rattle.history_reader.specs.declared.fault.Fault.TheVariants as fault

-- one reading after another
infixl 10 ◌>>=◌
abbrev pub ◌>>=◌ : {A B : Type 0} → Option A → (A → Option B) → Option B
o >>= f = option_and_then f o

-- what a function answered, seen by view, is what is read, unless memory is wanting
abbrev pub GivesSeen : {X Y : Type 0} → (X → Y) → Result X Fault → Option Y → Type 0
GivesSeen view (Ok x) read = read ≡ Some (view x)
GivesSeen view (Err fault.Bad) read = read ≡ None
GivesSeen view (Err fault.Memory) read = Unit {0}

-- the same, where nothing is viewed
abbrev pub Gives : {X : Type 0} → Result X Fault → Option X → Type 0
Gives (Ok x) read = read ≡ Some x
Gives (Err fault.Bad) read = read ≡ None
Gives (Err fault.Memory) read = Unit {0}

-- one reading where there is a first value, and another where there is none
abbrev pub either_way : {A X : Type 0} → Option A → X → (A → X) → X
either_way None x f = x
either_way (Some a) x f = f a

-- what stands before and behind the first such byte
unfoldable pub cut_at : ℕ → List ℕ → Option (List ℕ × List ℕ)
cut_at c [] = None
cut_at c (b ∷ bs) = if b == c then Some ([], bs) else option_map (λ p. (b ∷ p.0, p.1)) (cut_at c bs)

-- what stands before and behind the last such byte
unfoldable pub cut_last_at : ℕ → List ℕ → Option (List ℕ × List ℕ)
cut_last_at c [] = None
cut_last_at c (b ∷ bs) = either_way (cut_last_at c bs) (if b == c then Some ([], bs) else None) (λ p. Some (b ∷ p.0, p.1))

-- there is no byte
abbrev pub is_nothing : List ℕ → Bool
is_nothing [] = true
is_nothing (b ∷ bs) = false

-- what stands before and behind the last equals sign, which has a space on each side
unfoldable pub around_equals : List ℕ → Option (List ℕ × List ℕ)
around_equals bs = do
  p ← cut_last_at 61 bs
  before ← cut_last_at 32 p.0
  behind ← cut_at 32 p.1
  if is_nothing before.1 && is_nothing behind.0 then Some (before.0, behind.1) else None

-- the parts between such bytes
abbrev pub parts : ℕ → List ℕ → List (List ℕ)
parts c bs = slice_split (λ b. b == c) bs

-- each part is read, or none
abbrev pub each_read : {X : Type 0} → (List ℕ → Option X) → List (List ℕ) → Option (List X)
each_read read [] = Some []
each_read read (w ∷ ws) = read w >>= λ x. each_read read ws >>= λ xs. Some (x ∷ xs)

-- the number below 2 ^ 64 of which these are the digits
unfoldable pub read_number : List ℕ → Option ℕ
read_number ds = if bytes_eq (decimal (digits_value 10 ds)) ds && nat_lt (digits_value 10 ds) (2 ^ 64) then Some (digits_value 10 ds) else None

-- the number below a limit
unfoldable pub read_below : ℕ → List ℕ → Option ℕ
read_below limit ds = read_number ds >>= λ n. if nat_lt n limit then Some n else None

-- the number below 256
abbrev pub read_byte : List ℕ → Option ℕ
read_byte ds = read_below (2 ^ 8) ds

-- the dataset of a number and a run with a dot between them
unfoldable pub read_id : List ℕ → Option DataId
read_id bs = do
  p ← cut_at 46 bs
  id ← read_below (2 ^ 32) p.0
  run ← read_below (2 ^ 32) p.1
  Some (record { id = id; run = run })

-- a rank and the number of its step, and what follows them
unfoldable pub read_place : List ℕ → Option (ℕ × (ℕ × List ℕ))
read_place bs = do
  p ← cut_at 32 bs
  q ← cut_at 32 p.1
  rank ← read_byte p.0
  number ← read_below (2 ^ 32) q.0
  Some (rank, (number, q.1))

-- a node, and the count of its device's calls
unfoldable pub read_device : List ℕ → Option (ℕ × ℕ)
read_device bs = do
  p ← cut_at 32 bs
  node ← read_byte p.0
  count ← read_number p.1
  Some (node, count)

-- a node, and the bytes in use and the capacity of its device
unfoldable pub read_full : List ℕ → Option (ℕ × (ℕ × ℕ))
read_full bs = do
  p ← cut_at 32 bs
  q ← cut_at 32 p.1
  node ← read_byte p.0
  used ← read_number q.0
  capacity ← read_number q.1
  Some (node, (used, capacity))

-- whether the bytes are the name of a file in which a rank's file is kept
unfoldable pub read_part : List ℕ → Option (ℕ × (ℕ × (ℕ × (ℕ × ℕ))))
read_part bs = do
  d ← cut_at 46 bs
  id ← cut_at 46 d.1
  run ← cut_at 46 id.1
  node ← cut_at 46 run.1
  f ← cut_at 46 node.1
  rank ← cut_at 46 f.1
  a ← read_below (2 ^ 32) id.0
  b ← read_below (2 ^ 32) run.0
  n ← read_byte node.0
  r ← read_byte rank.0
  file ← read_byte rank.1
  if bytes_eq d.0 (codes "d") && bytes_eq f.0 (codes "f") && (nat_le 1 a && nat_le 1 b && nat_le n 15 && nat_le r 7 && nat_le file 15) then Some (a, (b, (n, (r, file)))) else None

-- a name is read as itself
unfoldable pub read_name : List ℕ → Option (List ℕ)
read_name bs = if is_name bs then Some bs else None

-- a word is read as itself
unfoldable pub read_word : List ℕ → Option (List ℕ)
read_word bs = if is_word bs then Some bs else None

-- a digit in lower case hexadecimal
unfoldable pub read_digit : ℕ → Option ℕ
read_digit b = if nat_le 48 b && nat_le b 57 then Some (b - 48) else if nat_le 97 b && nat_le b 102 then Some (b - 87) else None

-- the byte of two digits
unfoldable pub read_pair : ℕ → ℕ → Option ℕ
read_pair a b = do
  high ← read_digit a
  low ← read_digit b
  Some (16 * high + low)

-- bytes of two digits each
unfoldable pub read_pairs : List ℕ → Option (List ℕ)
read_pairs [] = Some []
read_pairs (a ∷ []) = None
read_pairs (a ∷ b ∷ rest) = do
  byte ← read_pair a b
  more ← read_pairs rest
  Some (byte ∷ more)

-- at least one byte
unfoldable pub read_hex : List ℕ → Option (List ℕ)
read_hex ds = if is_nothing ds then None else read_pairs ds

-- bytes in hexadecimal, or a dash for none
unfoldable pub read_bytes : List ℕ → Option (List ℕ)
read_bytes bs = if bytes_eq bs (codes "-") then Some [] else read_hex bs

-- lost nodes with a plus between each two, or a dash for none
unfoldable pub read_lost : List ℕ → Option (List ℕ)
read_lost bs = if bytes_eq bs (codes "-") then Some [] else each_read read_byte (parts 43 bs)

-- what a dataset is for
unfoldable pub read_flags : List ℕ → Option Flags
read_flags w =
    if bytes_eq w (codes "ckpt") then Some Ckpt else
    if bytes_eq w (codes "output") then Some Output else
    if bytes_eq w (codes "both") then Some Both else None

-- whether a rank says valid
unfoldable pub read_valid : List ℕ → Option Bool
read_valid w = if bytes_eq w (codes "valid") then Some true else if bytes_eq w (codes "invalid") then Some false else None

-- whether an entry is failed
unfoldable pub read_state : List ℕ → Option Bool
read_state w = if bytes_eq w (codes "failed") then Some true else if bytes_eq w (codes "flushed") then Some false else None

-- a phase
unfoldable pub read_phase : List ℕ → Option Phase
read_phase w =
    if bytes_eq w (codes "idle") then Some phase.Idle else
    if bytes_eq w (codes "output") then Some phase.Output else
    if bytes_eq w (codes "offered") then Some phase.Offered else
    if bytes_eq w (codes "restart") then Some phase.Restart else
    if bytes_eq w (codes "final") then Some phase.Final else None

-- why a job should exit
unfoldable pub read_reason : List ℕ → Option Reason
read_reason w =
    if bytes_eq w (codes "reason") then Some reason.Reason else
    if bytes_eq w (codes "checkpoints") then Some reason.Checkpoints else
    if bytes_eq w (codes "after") then Some reason.After else
    if bytes_eq w (codes "before") then Some reason.Before else None

-- a collective call
unfoldable pub read_kind : List ℕ → Option Kind
read_kind w =
    if bytes_eq w (codes "need") then Some kind.Need else
    if bytes_eq w (codes "start") then Some kind.Start else
    if bytes_eq w (codes "complete") then Some kind.Complete else
    if bytes_eq w (codes "have") then Some kind.Have else
    if bytes_eq w (codes "restart") then Some kind.Restart else
    if bytes_eq w (codes "restarted") then Some kind.Restarted else
    if bytes_eq w (codes "exit") then Some kind.Exit else
    if bytes_eq w (codes "finalize") then Some kind.Finalize else
    if bytes_eq w (codes "end") then Some kind.End else None

-- a refusal of one word, and one of more
unfoldable pub read_bare_refusal : List ℕ → Option Refusal
read_bare_refusal w =
    if bytes_eq w (codes "badname") then Some refusal.BadName else
    if bytes_eq w (codes "nofile") then Some refusal.NoFile else
    if bytes_eq w (codes "limit") then Some refusal.Limit else None

-- a refusal of a word and more
unfoldable pub read_full_refusal : List ℕ → List ℕ → Option Refusal
read_full_refusal w rest =
    if bytes_eq w (codes "mismatch") then option_map (λ rank. refusal.Mismatch rank) (read_byte rest) else
    if bytes_eq w (codes "phase") then option_map (λ p. refusal.Phase p) (read_phase rest) else
    if bytes_eq w (codes "taken") then option_map (λ which. refusal.NameTaken which) (read_id rest) else
    if bytes_eq w (codes "device") then option_map (λ d. refusal.Device d.0 d.1) (read_device rest) else
    if bytes_eq w (codes "full") then option_map (λ f. refusal.Full f.0 f.1.0 f.1.1) (read_full rest) else None

-- an answer of one word, and one of more
unfoldable pub read_bare_reply : List ℕ → Option Reply
read_bare_reply w =
    if bytes_eq w (codes "ok") then Some reply.Done else
    if bytes_eq w (codes "yes") then Some reply.Yes else
    if bytes_eq w (codes "no") then Some reply.No else
    if bytes_eq w (codes "kept") then Some reply.Kept else
    if bytes_eq w (codes "notkept") then Some reply.NotKept else
    if bytes_eq w (codes "none") then Some reply.NoneLeft else
    if bytes_eq w (codes "failed") then Some reply.Failed else
    option_map (λ r. reply.Refused r) (read_bare_refusal w)

-- where a file is kept
unfoldable pub read_routed : List ℕ → Option Reply
read_routed rest = read_part rest >>= λ numbers. Some (reply.Routed rest)

-- an answer that begins with a word
unfoldable pub read_worded_reply : List ℕ → List ℕ → Option Reply
read_worded_reply w rest =
    if bytes_eq w (codes "ok") then either_way (read_id rest) (read_routed rest) (λ which. Some (reply.Started which)) else
    if bytes_eq w (codes "yes") then option_map (λ r. reply.Exit r) (read_reason rest) else
    if bytes_eq w (codes "bytes") then option_map (λ bytes. reply.Bytes bytes) (read_bytes rest) else
    option_map (λ r. reply.Refused r) (read_full_refusal w rest)

-- an answer of more than one word: an offer begins with its dataset
unfoldable pub read_full_reply : List ℕ → List ℕ → Option Reply
read_full_reply w rest = either_way (read_id w) (read_worded_reply w rest) (λ which. option_map (λ name. reply.Offer which name) (read_name rest))

-- an answer of a call
unfoldable pub read_reply : List ℕ → Option Reply
read_reply bs = either_way (cut_at 32 bs) (read_bare_reply bs) (λ p. read_full_reply p.0 p.1)

-- where the device is the prefix
unfoldable pub read_prefix_device : List ℕ → Option ℕ
read_prefix_device bs = read_device bs >>= λ d. if d.0 == 32 then Some d.1 else None

-- the same of a full one
unfoldable pub read_prefix_full : List ℕ → Option (ℕ × ℕ)
read_prefix_full bs = read_full bs >>= λ f. if f.0 == 32 then Some f.1 else None

-- a command's answer of one word
unfoldable pub read_bare_answer : List ℕ → Option CommandAnswer
read_bare_answer w = if bytes_eq w (codes "ok") then Some answer.Done else if bytes_eq w (codes "noentry") then Some answer.NoEntry else None

-- a command's answer of a word and more
unfoldable pub read_full_answer : List ℕ → List ℕ → Option CommandAnswer
read_full_answer w rest =
    if bytes_eq w (codes "device") then option_map (λ count. answer.Device count) (read_prefix_device rest) else
    if bytes_eq w (codes "full") then option_map (λ f. answer.Full f.0 f.1) (read_prefix_full rest) else None

-- a command's answer
unfoldable pub read_answer : List ℕ → Option CommandAnswer
read_answer bs = either_way (cut_at 32 bs) (read_bare_answer bs) (λ p. read_full_answer p.0 p.1)

-- a cause of one word
unfoldable pub read_bare_cause : List ℕ → Option StopCause
read_bare_cause w =
    if bytes_eq w (codes "ended") then Some cause.Ended else
    if bytes_eq w (codes "script") then Some cause.Script else
    if bytes_eq w (codes "runs") then Some cause.Runs else
    if bytes_eq w (codes "command") then Some cause.Command else None

-- a cause of a word and more
unfoldable pub read_full_cause : List ℕ → List ℕ → Option StopCause
read_full_cause w rest =
    if bytes_eq w (codes "device") then option_map (λ d. cause.Device d.0 d.1) (read_device rest) else
    if bytes_eq w (codes "full") then option_map (λ f. cause.Full f.0 f.1.0 f.1.1) (read_full rest) else None

-- why a run or a command is over
unfoldable pub read_cause : List ℕ → Option StopCause
read_cause bs = either_way (cut_at 32 bs) (read_bare_cause bs) (λ p. read_full_cause p.0 p.1)

-- why a flush was given up
unfoldable pub read_given_up : List ℕ → List ℕ → Option GivenUpCause
read_given_up w rest =
    if bytes_eq w (codes "device") then option_map (λ d. given_up.Device d.0 d.1) (read_device rest) else
    if bytes_eq w (codes "full") then option_map (λ f. given_up.Full f.0 f.1.0 f.1.1) (read_full rest) else None

-- ---- steps

-- a step of one word
unfoldable pub read_bare_step : List ℕ → Option Step
read_bare_step w =
    if bytes_eq w (codes "need") then Some step.Need else
    if bytes_eq w (codes "have") then Some step.Have else
    if bytes_eq w (codes "restart") then Some step.Restart else
    if bytes_eq w (codes "exit") then Some step.Exit else
    if bytes_eq w (codes "finalize") then Some step.Finalize else
    if bytes_eq w (codes "end") then Some step.End else None

-- a content that is filled
unfoldable pub read_fill : List ℕ → Option Content
read_fill rest = do
  p ← cut_at 32 rest
  seed ← read_byte p.0
  len ← read_below (2 ^ 32) p.1
  Some (content.Fill seed len)

-- what a write writes
unfoldable pub read_content : List ℕ → Option Content
read_content bs = cut_at 32 bs >>= λ p.
    if bytes_eq p.0 (codes "text") then option_map (λ word. content.Text word) (read_word p.1) else
    if bytes_eq p.0 (codes "hex") then option_map (λ bytes. content.Hex bytes) (read_hex p.1) else
    if bytes_eq p.0 (codes "fill") then read_fill p.1 else None

-- the start of an output
unfoldable pub read_start : List ℕ → Option Step
read_start rest = do
  p ← cut_at 32 rest
  flags ← read_flags p.1
  name ← read_word p.0
  Some (step.Start name flags)

-- a write
unfoldable pub read_write : List ℕ → Option Step
read_write rest = do
  p ← cut_at 32 rest
  q ← cut_at 32 p.1
  at ← read_below (2 ^ 32) q.0
  c ← read_content q.1
  name ← read_word p.0
  Some (step.Write name at c)

-- a read
unfoldable pub read_read : List ℕ → Option Step
read_read rest = do
  p ← cut_at 32 rest
  q ← cut_at 32 p.1
  at ← read_below (2 ^ 32) q.0
  len ← read_below (2 ^ 32) q.1
  name ← read_word p.0
  Some (step.Read name at len)

-- a step that says whether all was valid
unfoldable pub read_closing_step : List ℕ → List ℕ → Option Step
read_closing_step w rest =
    if bytes_eq w (codes "complete") then option_map (λ valid. step.Complete valid) (read_valid rest) else
    if bytes_eq w (codes "restarted") then option_map (λ valid. step.Restarted valid) (read_valid rest) else None

-- a step of a word and more
unfoldable pub read_full_step : List ℕ → List ℕ → Option Step
read_full_step w rest =
    if bytes_eq w (codes "start") then read_start rest else
    if bytes_eq w (codes "route") then option_map (λ name. step.Route name) (read_word rest) else
    if bytes_eq w (codes "write") then read_write rest else
    if bytes_eq w (codes "read") then read_read rest else
    read_closing_step w rest

-- a step of a program
unfoldable pub read_step : List ℕ → Option Step
read_step bs = either_way (cut_at 32 bs) (read_bare_step bs) (λ p. read_full_step p.0 p.1)

-- ---- rows

-- a kept dataset with its lost nodes
unfoldable pub read_found_row : List ℕ → Option FoundRow
read_found_row w = do
  p ← cut_at 58 w
  which ← read_id p.0
  lost ← read_lost p.1
  Some (record { which = which; lost = lost })

-- an entry of the index
unfoldable pub read_entry_row : List ℕ → Option EntryRow
read_entry_row w = do
  p ← cut_at 58 w
  which ← read_id p.0
  failed ← read_state p.1
  Some (record { which = which; failed = failed })

-- flags, with a star behind them where the entry is marked
unfoldable pub read_marked : List ℕ → Option (Flags × Bool)
read_marked w = either_way (cut_at 42 w) (option_map (λ flags. (flags, false)) (read_flags w)) (λ p. if is_nothing p.1 then option_map (λ flags. (flags, true)) (read_flags p.0) else None)

-- an entry of the index with its name, state and flags
unfoldable pub read_list_row : List ℕ → Option ListRow
read_list_row w = do
  a ← cut_at 47 w
  b ← cut_at 47 a.1
  c ← cut_at 47 b.1
  which ← read_id a.0
  failed ← read_state c.0
  marked ← read_marked c.1
  name ← read_name b.0
  Some (record { which = which; name = name; failed = failed; flags = marked.0; marked = marked.1 })

-- rows, each with a space behind it
unfoldable pub read_kept : List ℕ → Option (List FoundRow)
read_kept bs = if is_nothing bs then Some [] else (cut_last_at 32 bs >>= λ p. if is_nothing p.1 then each_read read_found_row (parts 32 p.0) else None)

-- rows, each with a space before it
unfoldable pub read_index : List ℕ → Option (List EntryRow)
read_index bs = if is_nothing bs then Some [] else (cut_at 32 bs >>= λ p. if is_nothing p.0 then each_read read_entry_row (parts 32 p.1) else None)

-- entries of the index, or none of them
unfoldable pub read_list : List ℕ → Option (List ListRow)
read_list bs = if bytes_eq bs (codes "none") then Some [] else each_read read_list_row (parts 32 bs)

-- ---- events

-- what a scavenge brought
unfoldable pub read_scavenged : List ℕ → Option ScavAnswer
read_scavenged rest = either_way (read_id rest) (if bytes_eq rest (codes "none") then Some scavenged.NoneLeft else None) (λ which. Some (scavenged.Done which))

-- why a scavenge brought nothing
unfoldable pub read_scavenge : List ℕ → Option ScavAnswer
read_scavenge rest =
    if bytes_eq rest (codes "cut") then Some scavenged.Cut else (cut_at 32 rest >>= λ p.
    if bytes_eq p.0 (codes "device") then option_map (λ d. scavenged.Device d.0 d.1) (read_device p.1) else
    if bytes_eq p.0 (codes "full") then option_map (λ f. scavenged.Full f.0 f.1) (read_prefix_full p.1) else None)

-- why the index was not listed
unfoldable pub read_list_fault : List ℕ → Option ℕ
read_list_fault bs = cut_at 32 bs >>= λ p. if bytes_eq p.0 (codes "device") then read_prefix_device p.1 else None

-- what a listing of the index answered
unfoldable pub read_list_note : List ℕ → Option IndexNote
read_list_note bs = either_way (read_list_fault bs) (option_map (λ rows. note.List rows) (read_list bs)) (λ count. Some (note.ListFault count))

-- a command that changes the index
unfoldable pub read_changing_note : List ℕ → List ℕ → Option IndexNote
read_changing_note what bs = do
  p ← cut_at 32 what
  id ← read_below (2 ^ 32) p.1
  a ← read_answer bs
  if bytes_eq p.0 (codes "drop") then Some (note.Drop id a) else if bytes_eq p.0 (codes "current") then Some (note.Current id a) else None

-- a command on the index
unfoldable pub read_note : List ℕ → Option IndexNote
read_note rest = around_equals rest >>= λ p. if bytes_eq p.0 (codes "list") then read_list_note p.1 else read_changing_note p.0 p.1

-- a halt condition that counts
unfoldable pub read_counted_halt : List ℕ → List ℕ → Option HaltWord
read_counted_halt w value =
    if bytes_eq w (codes "checkpoints") then option_map (λ left. halt.Checkpoints left) (read_below (2 ^ 32) value) else
    if bytes_eq w (codes "before") then option_map (λ at. halt.Before at) (read_number value) else
    if bytes_eq w (codes "after") then option_map (λ at. halt.After at) (read_number value) else
    if bytes_eq w (codes "seconds") then option_map (λ seconds. halt.Seconds seconds) (read_number value) else None

-- a halt condition, or its clearing
unfoldable pub read_halt_word : List ℕ → Option (Option HaltWord)
read_halt_word words =
    if bytes_eq words (codes "clear") then Some None else (cut_at 32 words >>= λ p.
    if bytes_eq p.0 (codes "reason") then option_map (λ name. Some (halt.Reason name)) (read_name p.1) else option_map (λ word. Some word) (read_counted_halt p.0 p.1))

-- the setting of a halt condition
unfoldable pub read_halt : List ℕ → Option Event
read_halt rest = do
  p ← around_equals rest
  a ← read_answer p.1
  word ← read_halt_word p.0
  Some (event.HaltSet word a)

-- the start of a run
unfoldable pub read_run : List ℕ → Option Event
read_run rest = do
  p ← cut_at 32 rest
  run ← read_below (2 ^ 32) p.0
  q ← cut_at 32 p.1
  if bytes_eq q.0 (codes "at") then option_map (λ places. event.Run run places) (each_read read_byte (parts 44 q.1)) else None

-- what a run found
unfoldable pub read_found : List ℕ → Option Event
read_found rest = do
  p ← cut_at 124 rest
  kept ← read_kept p.0
  index ← read_index p.1
  Some (event.Found kept index)

-- a call
unfoldable pub read_call : List ℕ → Option Event
read_call rest = do
  at ← read_place rest
  s ← read_step at.1.1
  Some (event.Call at.0 at.1.0 s)

-- an answer that a rank took
unfoldable pub read_taken_reply : List ℕ → Option Event
read_taken_reply rest = do
  at ← read_place rest
  a ← read_reply at.1.1
  Some (event.Reply at.0 at.1.0 a)

-- a local step
unfoldable pub read_local : List ℕ → Option Event
read_local rest = do
  at ← read_place rest
  p ← around_equals at.1.1
  a ← read_reply p.1
  s ← read_step p.0
  Some (event.Local at.0 at.1.0 s a)

-- the decision of a round
unfoldable pub read_decided : List ℕ → Option Event
read_decided rest = do
  p ← cut_at 32 rest
  k ← read_kind p.0
  a ← read_reply p.1
  Some (event.Decided k a)

-- the end of a flush that was given up
unfoldable pub read_giving_up : List ℕ → Option Event
read_giving_up rest = do
  p ← cut_at 32 rest
  q ← cut_at 32 p.1
  which ← read_id p.0
  why ← read_given_up q.0 q.1
  Some (event.GivenUp which why)

-- an event of a word and a dataset
unfoldable pub dataset_event : List ℕ → DataId → Option Event
dataset_event w which =
    if bytes_eq w (codes "sealing") then Some (event.Sealing which) else
    if bytes_eq w (codes "settled") then Some (event.Settled which) else
    if bytes_eq w (codes "flushing") then Some (event.Flushing which) else
    if bytes_eq w (codes "indexing") then Some (event.Indexing which) else
    if bytes_eq w (codes "flushed") then Some (event.Flushed which) else
    if bytes_eq w (codes "mended") then Some (event.Mended which) else
    if bytes_eq w (codes "evicting") then Some (event.Evicting which) else
    if bytes_eq w (codes "evicted") then Some (event.Evicted which) else
    if bytes_eq w (codes "discarding") then Some (event.Discarding which) else
    if bytes_eq w (codes "discarded") then Some (event.Discarded which) else
    if bytes_eq w (codes "fetching") then Some (event.Fetching which) else
    if bytes_eq w (codes "fetched") then Some (event.Fetched which) else
    if bytes_eq w (codes "failing") then Some (event.Failing which) else
    if bytes_eq w (codes "failed") then Some (event.Failed which) else
    if bytes_eq w (codes "scavenging") then Some (event.Scavenging which) else None

-- an event of which the line is short
unfoldable pub read_short : List ℕ → List ℕ → Option Event
read_short w rest =
    if bytes_eq w (codes "time") then option_map (λ now. event.Time now) (read_number rest) else
    if bytes_eq w (codes "emptied") then option_map (λ node. event.Emptied node) (read_byte rest) else
    if bytes_eq w (codes "lost") then option_map (λ node. event.Lost node) (read_byte rest) else
    if bytes_eq w (codes "stop") then option_map (λ why. event.Stop why) (read_cause rest) else
    if bytes_eq w (codes "givenup") then read_giving_up rest else
    if bytes_eq w (codes "scavenged") then option_map (λ a. event.Scavenged a) (read_scavenged rest) else
    if bytes_eq w (codes "scavenge") then option_map (λ a. event.Scavenged a) (read_scavenge rest) else
    (read_id rest >>= λ which. dataset_event w which)

-- an event, by its first word
unfoldable pub read_worded : List ℕ → List ℕ → Option Event
read_worded w rest =
    if bytes_eq w (codes "call") then read_call rest else
    if bytes_eq w (codes "reply") then read_taken_reply rest else
    if bytes_eq w (codes "local") then read_local rest else
    if bytes_eq w (codes "decided") then read_decided rest else
    if bytes_eq w (codes "run") then read_run rest else
    if bytes_eq w (codes "found") then read_found rest else
    if bytes_eq w (codes "index") then option_map (λ n. event.IndexCommand n) (read_note rest) else
    if bytes_eq w (codes "halt") then read_halt rest else
    read_short w rest

-- the event of a line
unfoldable pub read_event : List ℕ → Option Event
read_event line = cut_at 32 line >>= λ p. read_worded p.0 p.1

-- the first line's event, and the lines behind it
unfoldable pub read_line : List ℕ → Option (Event × List ℕ)
read_line bs = do
  p ← cut_at 10 bs
  e ← read_event p.0
  Some (e, p.1)
