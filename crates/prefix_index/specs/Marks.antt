-- The mark: the pair `cur`, whose payload spells the identity of an entry.
use Rattle.std.specs.Prelude.{◌<◌, ◌^◌, ◌&&◌, ℕ, List, Option, None, Some, Result, Ok, Err, not, filter, map, option_and_then, if◌then◌else◌, nat_lt, codes, decimal, bytes_eq}
use Rattle.std.specs.Str.Parse.{digits_value}
use Rattle.scr_base.specs.Index.{marked}
use Rattle.scr_base.specs.declared.shape.DataId.{DataId}
use Rattle.node_device.specs.DeviceState.{DeviceState}
use Rattle.gated_record.specs.Pair.{pair_now}
use Rattle.gated_record.specs.declared.pair.PairValue.{PairValue}
use Rattle.kvtree.specs.Entries.{Entries, none, entry}
use Rattle.kvtree.specs.Lookup.{entry_under, leaf}
use Rattle.kvtree.specs.Encoding.{encoding}
use Rattle.kvtree.specs.Reading.{all_of}
use Rattle.kvtree.specs.declared.error.TreeError.{TreeError}
use Rattle.prefix_index.specs.declared.entry.Entry.{Entry}

-- ID{..} RUN{..}
abbrev pub mark_tree : DataId → Entries
mark_tree which = entry (codes "ID") (leaf (decimal which.id)) (entry (codes "RUN") (leaf (decimal which.run)) none)

-- an identity of two numbers of 32 bits
abbrev pub IsSmall : DataId → Type 0
IsSmall which = (which.id < 2 ^ 32) × (which.run < 2 ^ 32)

-- the payload that spells an identity
unfoldable pub mark_payload : DataId → List ℕ
mark_payload which = encoding (mark_tree which)

-- ---- what a payload tells

-- the key of a tree that is one key and nothing under it
abbrev pub only_key : Entries → Option (List ℕ)
only_key (entry key none none) = Some key
only_key _ = None

-- the number below 2 ^ 32 of which these are the decimal digits
unfoldable pub small_number : List ℕ → Option ℕ
small_number ds = if bytes_eq (decimal (digits_value 10 ds)) ds && nat_lt (digits_value 10 ds) (2 ^ 32) then Some (digits_value 10 ds) else None

-- the number under a key at a place
abbrev pub number_under : Entries → ℕ → List ℕ → Option ℕ
number_under t at key = option_and_then small_number (option_and_then only_key (entry_under t at key))

-- the identity, if this payload spells it
unfoldable pub mark_spelled : List ℕ → DataId → Option DataId
mark_spelled payload which = if bytes_eq (mark_payload which) payload then Some which else None

-- the identity that a tree tells, if this payload spells it
abbrev pub mark_told : List ℕ → Entries → Option DataId
mark_told payload t = option_and_then (λ id. option_and_then (λ run. let which : DataId = record { id = id; run = run } in mark_spelled payload which) (number_under t 1 (codes "RUN"))) (number_under t 0 (codes "ID"))

abbrev pub mark_by : List ℕ → Result Entries TreeError → Option DataId
mark_by payload (Ok t) = mark_told payload t
mark_by payload (Err e) = None

-- the identity that a payload spells; none where it spells none
abbrev pub mark_of : List ℕ → Option DataId
mark_of payload = mark_by payload (all_of payload)

-- the mark that the standing value of the pair `cur` tells
abbrev pub mark_in : Option PairValue → Option DataId
mark_in None = None
mark_in (Some value) = mark_of value.body

-- the mark that a device tells
abbrev pub stored_mark : DeviceState → Option DataId
stored_mark d = mark_in (pair_now (codes "cur") d)

-- the identities of the entries that aren't failed
abbrev pub flushed_ids : List Entry → List DataId
flushed_ids entries = map (λ e. e.desc.which) (filter (λ e. not e.failed) entries)

-- the marked entry where it is flushed, else the flushed one with the largest id
abbrev pub mark_among : DeviceState → List Entry → Option DataId
mark_among d entries = marked (stored_mark d) (flushed_ids entries)
