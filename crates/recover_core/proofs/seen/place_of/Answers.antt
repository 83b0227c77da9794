use Rattle.std.proofs.Common.{◌<◌, ◌+◌, ◌-◌, ◌/◌, ℕ, length, arith, ap, sym, subst, ◌∙◌, ◌≡◌, slice_get}
use Rattle.recover_core.specs.Seen.{IsEarlier}
use Rattle.recover_core.specs.declared.seen.SeenSet.{SeenSet}
use Rattle.recover_core.proofs.Order.{up_to, not_at, none_past}
use Rattle.recover_core.proofs.seen.place_of.Goals as goal

pub loop-low-init : goal.loop-low-init
loop-low-init c = record {
  inside = omega arith;
  apart = omega arith;
  before = λ rising i x below there. absurd (omega (arith, below));
  stop = λ rising x there. none_past c.args.sets.now (length c.args.sets.now) c.args.which x (omega arith) there;
}

pub loop-low-preserved-then-is_earlier : goal.loop-low-preserved-then-is_earlier
loop-low-preserved-then-is_earlier c =
    let middle : ℕ = c.loop-low.low + (c.loop-low.high - c.loop-low.low) / 2 in
    let lt : middle < length c.args.sets.now = omega (arith, c.loop-low-test.true, c.loop-low.invariant.inside) in
    record {
      inside = c.loop-low.invariant.inside;
      apart = omega (arith, c.loop-low-test.true);
      before = λ rising. up_to c.args.sets.now middle c.args.which c.index-sets-middle.result rising lt c.index-sets-middle.is (subst (λ (x : SeenSet). IsEarlier x.desc.which c.args.which) (sym c.index-sets-middle.is) (c.is_earlier.ensures.0 c.if-is_earlier.true));
      stop = c.loop-low.invariant.stop;
    }

pub loop-low-preserved : goal.loop-low-preserved
loop-low-preserved c =
    let middle : ℕ = c.loop-low.low + (c.loop-low.high - c.loop-low.low) / 2 in
    let lt : middle < length c.args.sets.now = omega (arith, c.loop-low-test.true, c.loop-low.invariant.inside) in
    let not : ¬ IsEarlier c.index-sets-middle.result.desc.which c.args.which = λ less. absurd (cc (c.is_earlier.ensures.1 (subst (λ (x : SeenSet). IsEarlier x.desc.which c.args.which) c.index-sets-middle.is less), c.if-is_earlier.false)) in
    record {
      inside = omega (arith, lt);
      apart = omega arith;
      before = c.loop-low.invariant.before;
      stop = λ rising x there. not_at c.args.sets.now middle c.args.which c.index-sets-middle.result x lt c.index-sets-middle.is not there;
    }

pub returns : goal.returns
returns c =
    let same : c.loop-low.low ≡ c.loop-low.high = omega (arith, c.loop-low-test.false, c.loop-low.invariant.apart) in
    record {
      within = omega (arith, c.loop-low.invariant.inside, c.loop-low.invariant.apart);
      place = λ rising. record {
        within = omega (arith, c.loop-low.invariant.inside, c.loop-low.invariant.apart);
        before = c.loop-low.invariant.before rising;
        stop = λ x there. c.loop-low.invariant.stop rising x (ap (slice_get c.args.sets.now) (sym same) ∙ there);
      };
    }
