use Rattle.std.proofs.Common.{refl, sym}
use Rattle.site_state.proofs.run_state.RunState.spot.Goals as goal

pub returns : goal.returns
returns c = record {
  set = c.in_ok-which.field-0.now;
  hand = sym c.in_ok-which.ensures;
  which = refl;
  node = refl;
  home = sym c.in_ok-place.ensures.place;
  low = c.in_ok-place.ensures.low;
  part = refl;
}
