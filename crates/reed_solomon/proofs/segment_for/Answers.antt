use Rattle.std.proofs.Common.{◌≡◌, length, slice_index, Err, arith, sym, ap, subst}
use Rattle.std.proofs.lemmas.Grind.{common_steps}
use Rattle.reed_solomon.specs.Stripe.{segment_of, IsSegment}
use Rattle.reed_solomon.proofs.segment_for.Goals as goal

pub unreachable-requires-in-Err-Repeated : goal.unreachable-requires-in-Err-Repeated
unreachable-requires-in-Err-Repeated c =
    let r = (c.in-Err-Repeated.ensures.repeated c.in-Err-Repeated.field-0-0).0 (ap (λ e. Err e) c.in-Err-Repeated.field-0-is) in
    c.requires.distinct r.earlier c.in-Err-Repeated.field-0-0 r.before r.within r.same

pub returns : goal.returns
returns c =
    let own : c.of.result ≡ c.weigh.new.out = grind (arith, common_steps) in
    let size : length c.weigh.new.out ≡ length (segment_of c.args.known.now.items (slice_index c.args.places.now 0)) = grind (arith, common_steps) in
    subst (IsSegment c.args.known.now.items c.args.places.now c.args.target) (sym own)
    (record {
      count = size;
      copied = λ j h e. absurd (c.if-is_among.ensures.none j h e);
      weighed = λ none. record {
        weights = c.list.result.now;
        right = rw c.list.ensures c.in-Ok.ensures.ok;
        sum = λ b h. c.weigh.ensures b (omega arith);
      };
    })
