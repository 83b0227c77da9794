-- Which events have a text: what their fields may be.
use Rattle.std.specs.Prelude.{ℕ, ◌<◌, ◌^◌, List, Option, Some, None, IsTrue, length}
use Rattle.std.specs.List.{AllByRecursion}
use Rattle.scr_base.specs.Words.{is_name, is_word}
use Rattle.scr_base.specs.declared.shape.DataId.{DataId}
use Rattle.scr_base.specs.declared.answers.Refusal.{Refusal}
use Rattle.scr_base.specs.declared.answers.Refusal.TheVariants as refusal
use Rattle.scr_base.specs.declared.answers.Reply.{Reply}
use Rattle.scr_base.specs.declared.answers.Reply.TheVariants as reply
use Rattle.scr_base.specs.declared.content.Content.{Content}
use Rattle.scr_base.specs.declared.content.Content.TheVariants as content
use Rattle.scr_base.specs.declared.content.HaltWord.{HaltWord}
use Rattle.scr_base.specs.declared.content.HaltWord.TheVariants as halt
use Rattle.scr_base.specs.declared.content.ListRow.{ListRow}
use Rattle.scr_base.specs.declared.content.Step.{Step}
use Rattle.scr_base.specs.declared.content.Step.TheVariants as step
use Rattle.ckpt_model.specs.declared.event.FoundRow.{FoundRow}
use Rattle.ckpt_model.specs.declared.event.EntryRow.{EntryRow}
use Rattle.ckpt_model.specs.declared.event.StopCause.{StopCause}
use Rattle.ckpt_model.specs.declared.event.StopCause.TheVariants as cause
use Rattle.ckpt_model.specs.declared.event.GivenUpCause.{GivenUpCause}
use Rattle.ckpt_model.specs.declared.event.GivenUpCause.TheVariants as given_up
use Rattle.ckpt_model.specs.declared.event.CommandAnswer.{CommandAnswer}
use Rattle.ckpt_model.specs.declared.event.CommandAnswer.TheVariants as answer
use Rattle.ckpt_model.specs.declared.event.IndexNote.{IndexNote}
use Rattle.ckpt_model.specs.declared.event.IndexNote.TheVariants as note
use Rattle.ckpt_model.specs.declared.event.ScavAnswer.{ScavAnswer}
use Rattle.ckpt_model.specs.declared.event.ScavAnswer.TheVariants as scavenged
use Rattle.ckpt_model.specs.declared.event.Event.{Event}
use Rattle.ckpt_model.specs.declared.event.Event.TheVariants as event
use Rattle.history_reader.specs.Part.{IsPart}

-- ---- what has a spelling: no hexadecimal of no bytes, no route to what is no part, no run without places

-- hexadecimal has a byte
abbrev pub IsSpelledContent : Content → Type 0
IsSpelledContent (content.Hex bytes) = 0 < length bytes
IsSpelledContent _ = Unit {0}

-- what a write writes has a text
abbrev pub IsSpelledStep : Step → Type 0
IsSpelledStep (step.Write name at c) = IsSpelledContent c
IsSpelledStep _ = Unit {0}

-- a file is kept under a part's name
abbrev pub IsSpelledReply : Reply → Type 0
IsSpelledReply (reply.Routed part) = IsPart part
IsSpelledReply _ = Unit {0}

-- a run has a place, and its steps and answers have a text
abbrev pub IsSpelled : Event → Type 0
IsSpelled (event.Run run places) = 0 < length places
IsSpelled (event.Call rank number s) = IsSpelledStep s
IsSpelled (event.Decided kind a) = IsSpelledReply a
IsSpelled (event.Reply rank number a) = IsSpelledReply a
IsSpelled (event.Local rank number s a) = IsSpelledStep s × IsSpelledReply a
IsSpelled _ = Unit {0}

-- ---- what the types hold: numbers within their widths, names and words

-- a number and a run of 32 bits
abbrev pub FitsId : DataId → Type 0
FitsId which = (which.id < 2 ^ 32) × (which.run < 2 ^ 32)

-- numbers of 8 bits
abbrev pub FitsBytes : List ℕ → Type 0
FitsBytes bytes = AllByRecursion (λ b. b < 2 ^ 8) bytes

-- a node of 8 bits, a count of 64
abbrev pub FitsDevice : ℕ → ℕ → Type 0
FitsDevice node count = (node < 2 ^ 8) × (count < 2 ^ 64)

-- a node of 8 bits, bytes of 64
abbrev pub FitsFull : ℕ → ℕ → ℕ → Type 0
FitsFull node used capacity = (node < 2 ^ 8) × ((used < 2 ^ 64) × (capacity < 2 ^ 64))

-- a rank of 8 bits, a number of 32
abbrev pub FitsPlace : ℕ → ℕ → Type 0
FitsPlace rank number = (rank < 2 ^ 8) × (number < 2 ^ 32)

-- a word, bytes, or a seed and a length
abbrev pub FitsContent : Content → Type 0
FitsContent (content.Text word) = IsTrue (is_word word)
FitsContent (content.Hex bytes) = FitsBytes bytes
FitsContent (content.Fill seed len) = (seed < 2 ^ 8) × (len < 2 ^ 32)

-- a word, a place and a length
abbrev pub FitsStep : Step → Type 0
FitsStep (step.Start name flags) = IsTrue (is_word name)
FitsStep (step.Route name) = IsTrue (is_word name)
FitsStep (step.Write name at c) = IsTrue (is_word name) × ((at < 2 ^ 32) × FitsContent c)
FitsStep (step.Read name at len) = IsTrue (is_word name) × ((at < 2 ^ 32) × (len < 2 ^ 32))
FitsStep _ = Unit {0}

-- a rank, a device or a dataset
abbrev pub FitsRefusal : Refusal → Type 0
FitsRefusal (refusal.Mismatch rank) = rank < 2 ^ 8
FitsRefusal (refusal.Device node count) = FitsDevice node count
FitsRefusal (refusal.Full node used capacity) = FitsFull node used capacity
FitsRefusal (refusal.NameTaken which) = FitsId which
FitsRefusal _ = Unit {0}

-- a dataset, a name, bytes or a refusal
abbrev pub FitsReply : Reply → Type 0
FitsReply (reply.Started which) = FitsId which
FitsReply (reply.Offer which name) = FitsId which × IsTrue (is_name name)
FitsReply (reply.Bytes bytes) = FitsBytes bytes
FitsReply (reply.Refused r) = FitsRefusal r
FitsReply _ = Unit {0}

-- counts of 64 bits
abbrev pub FitsAnswer : CommandAnswer → Type 0
FitsAnswer (answer.Device count) = count < 2 ^ 64
FitsAnswer (answer.Full used capacity) = (used < 2 ^ 64) × (capacity < 2 ^ 64)
FitsAnswer _ = Unit {0}

-- a device
abbrev pub FitsCause : StopCause → Type 0
FitsCause (cause.Device node count) = FitsDevice node count
FitsCause (cause.Full node used capacity) = FitsFull node used capacity
FitsCause _ = Unit {0}

-- a device
abbrev pub FitsGivenUp : GivenUpCause → Type 0
FitsGivenUp (given_up.Device node count) = FitsDevice node count
FitsGivenUp (given_up.Full node used capacity) = FitsFull node used capacity

-- a dataset and nodes
abbrev pub FitsFoundRow : FoundRow → Type 0
FitsFoundRow row = FitsId row.which × FitsBytes row.lost

-- a dataset
abbrev pub FitsEntryRow : EntryRow → Type 0
FitsEntryRow row = FitsId row.which

-- a dataset and a name
abbrev pub FitsListRow : ListRow → Type 0
FitsListRow row = FitsId row.which × IsTrue (is_name row.name)

-- a number within its width, or a name
abbrev pub FitsHalt : Option HaltWord → Type 0
FitsHalt (Some (halt.Checkpoints left)) = left < 2 ^ 32
FitsHalt (Some (halt.Before at)) = at < 2 ^ 64
FitsHalt (Some (halt.After at)) = at < 2 ^ 64
FitsHalt (Some (halt.Seconds seconds)) = seconds < 2 ^ 64
FitsHalt (Some (halt.Reason name)) = IsTrue (is_name name)
FitsHalt None = Unit {0}

-- rows, a count, or a number with an answer
abbrev pub FitsNote : IndexNote → Type 0
FitsNote (note.List rows) = AllByRecursion FitsListRow rows
FitsNote (note.ListFault count) = count < 2 ^ 64
FitsNote (note.Drop id a) = (id < 2 ^ 32) × FitsAnswer a
FitsNote (note.Current id a) = (id < 2 ^ 32) × FitsAnswer a

-- a dataset or a device
abbrev pub FitsScavenged : ScavAnswer → Type 0
FitsScavenged (scavenged.Done which) = FitsId which
FitsScavenged (scavenged.Device node count) = FitsDevice node count
FitsScavenged (scavenged.Full used capacity) = (used < 2 ^ 64) × (capacity < 2 ^ 64)
FitsScavenged _ = Unit {0}

-- each field of the event
abbrev pub Fits : Event → Type 0
Fits (event.Run run places) = (run < 2 ^ 32) × FitsBytes places
Fits (event.Emptied node) = node < 2 ^ 8
Fits (event.Found kept index) = AllByRecursion FitsFoundRow kept × AllByRecursion FitsEntryRow index
Fits (event.Discarding which) = FitsId which
Fits (event.Discarded which) = FitsId which
Fits (event.Mended which) = FitsId which
Fits (event.Call rank number s) = FitsPlace rank number × FitsStep s
Fits (event.Time now) = now < 2 ^ 64
Fits (event.Decided kind a) = FitsReply a
Fits (event.Reply rank number a) = FitsPlace rank number × FitsReply a
Fits (event.Local rank number s a) = FitsPlace rank number × (FitsStep s × FitsReply a)
Fits (event.Sealing which) = FitsId which
Fits (event.Settled which) = FitsId which
Fits (event.Evicting which) = FitsId which
Fits (event.Evicted which) = FitsId which
Fits (event.Flushing which) = FitsId which
Fits (event.Indexing which) = FitsId which
Fits (event.Flushed which) = FitsId which
Fits (event.GivenUp which why) = FitsId which × FitsGivenUp why
Fits (event.Fetching which) = FitsId which
Fits (event.Fetched which) = FitsId which
Fits (event.Failing which) = FitsId which
Fits (event.Failed which) = FitsId which
Fits (event.Stop why) = FitsCause why
Fits (event.Lost node) = node < 2 ^ 8
Fits (event.Scavenging which) = FitsId which
Fits (event.Scavenged a) = FitsScavenged a
Fits (event.IndexCommand n) = FitsNote n
Fits (event.HaltSet word a) = FitsHalt word × FitsAnswer a

-- the event has a text, and is one that the types hold
abbrev pub IsPrintable : Event → Type 0
IsPrintable e = IsSpelled e × Fits e
