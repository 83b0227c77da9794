use Rattle.std.proofs.Common.{◌≡◌, ◌≤◌, length, take}
use Rattle.std.specs.List.{filter}
use Rattle.scr_base.specs.Sets.{numbers_below}
use Rattle.reed_solomon.specs.Stripe.{is_known}
use Rattle.reed_solomon.proofs.count_known.Given as goal

abbrev pub invariant-loop-place : goal.invariant-loop-place
invariant-loop-place l = record {
  count : l.count ≡ length (filter (is_known l.known.items) (take l.place (numbers_below (length l.known.items))));
  most : l.count ≤ l.place;
}
