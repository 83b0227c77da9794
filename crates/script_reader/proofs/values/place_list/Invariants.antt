use Rattle.std.proofs.Common.{◌≡◌, drop, []}
use Rattle.script_reader.specs.Values.{place_list}
use Rattle.script_reader.specs.Words.{texts}
use Rattle.script_reader.proofs.values.place_list.Given as goal

-- the nodes behind those so far are those of all words
abbrev pub invariant-loop-word : goal.invariant-loop-word
invariant-loop-word l = place_list l.devices l.places.items (drop l.word-index (texts l.words)) ≡ place_list l.devices [] (texts l.words)
