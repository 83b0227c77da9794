use Rattle.std.proofs.Common.{◌≡◌, length, take}
use Rattle.std.specs.List.{filter}
use Rattle.scr_base.specs.Sets.{numbers_below}
use Rattle.reed_solomon.specs.Stripe.{is_known}
use Rattle.reed_solomon.proofs.places_of.Given as goal

abbrev pub invariant-loop-place : goal.invariant-loop-place
invariant-loop-place l = l.places.items ≡ filter (is_known l.known.items) (take l.place (numbers_below (length l.known.items)))
