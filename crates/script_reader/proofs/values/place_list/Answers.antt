use Rattle.std.proofs.Common.{ap, sym, ◌∙◌, rules}
use Rattle.script_reader.specs.Reasons.{or_reason}
use Rattle.script_reader.specs.declared.reason.Reason.TheVariants.{Node}
use Rattle.script_reader.proofs.Fronts.{places_more, places_stop}
use Rattle.script_reader.proofs.values.place_list.Goals as goal

pub returns-in_default : goal.returns-in_default
returns-in_default c = ap (or_reason Node) (places_stop c.args.devices c.loop-word.places.items c.args.words.now c.loop-word.word-index _ _ (search rules) (sym (rw c.deref.ensures.value at c.next_place.ensures) ∙ c.in_default.is) c.loop-word.invariant)

pub loop-word-preserved : goal.loop-word-preserved
loop-word-preserved c =
    rw c.in_ok-push.ensures.items
    (places_more c.args.devices c.loop-word.places.items c.args.words.now c.loop-word.word-index _ c.in-Some.place _ (search rules) (sym (rw c.deref.ensures.value at c.next_place.ensures) ∙ c.in-Some.is) c.loop-word.invariant)
