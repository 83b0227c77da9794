use Rattle.std.proofs.Common.{◌<◌, ◌+◌, ◌-◌, ◌/◌, ℕ, length, arith, ap, sym, ◌∙◌, ◌≡◌, slice_get}
use Rattle.member_store.specs.Members.{IsBefore}
use Rattle.member_store.proofs.Ordered.{up_to, not_at, none_past}
use Rattle.member_store.proofs.order.place_for.Goals as goal

pub loop-low-init : goal.loop-low-init
loop-low-init c = record {
  inside = omega arith;
  apart = omega arith;
  before = λ ascend i a below there. absurd (omega (arith, below));
  stop = λ ascend a there. none_past c.args.members.now (length c.args.members.now) c.args.member.now a (omega arith) there;
}

pub loop-low-preserved-then-is_before : goal.loop-low-preserved-then-is_before
loop-low-preserved-then-is_before c =
    let middle : ℕ = c.loop-low.low + (c.loop-low.high - c.loop-low.low) / 2 in
    let lt : middle < length c.args.members.now = omega (arith, c.loop-low-test.true, c.loop-low.invariant.inside) in
    record {
      inside = c.loop-low.invariant.inside;
      apart = omega (arith, c.loop-low-test.true);
      before = λ ascend. up_to c.args.members.now middle c.args.member.now c.index-members-middle.result ascend lt c.index-members-middle.is (c.is_before.ensures.0 c.if-is_before.true);
      stop = c.loop-low.invariant.stop;
    }

pub loop-low-preserved : goal.loop-low-preserved
loop-low-preserved c =
    let middle : ℕ = c.loop-low.low + (c.loop-low.high - c.loop-low.low) / 2 in
    let lt : middle < length c.args.members.now = omega (arith, c.loop-low-test.true, c.loop-low.invariant.inside) in
    let not : ¬ IsBefore c.index-members-middle.result c.args.member.now = λ less. absurd (cc (c.is_before.ensures.1 less, c.if-is_before.false)) in
    record {
      inside = omega (arith, lt);
      apart = omega arith;
      before = c.loop-low.invariant.before;
      stop = λ ascend a there. not_at c.args.members.now middle c.args.member.now c.index-members-middle.result a lt c.index-members-middle.is not there;
    }

pub returns : goal.returns
returns c =
    let same : c.loop-low.low ≡ c.loop-low.high = omega (arith, c.loop-low-test.false, c.loop-low.invariant.apart) in
    record {
      within = omega (arith, c.loop-low.invariant.inside, c.loop-low.invariant.apart);
      place = λ ascend. record {
        within = omega (arith, c.loop-low.invariant.inside, c.loop-low.invariant.apart);
        before = c.loop-low.invariant.before ascend;
        stop = λ a there. c.loop-low.invariant.stop ascend a (ap (slice_get c.args.members.now) (sym same) ∙ there);
      };
    }
