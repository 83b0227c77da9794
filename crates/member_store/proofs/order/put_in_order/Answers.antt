use Rattle.std.proofs.Common.{List, sym, subst}
use Rattle.member_store.specs.Scanning.{AreAscending, IsPlaceFor}
use Rattle.member_store.specs.declared.member.Member.{Member}
use Rattle.member_store.proofs.order.put_in_order.Goals as goal

pub returns-clause-put : goal.returns-clause-put
returns-clause-put c = λ ascend. record {
  place = c.place_for-place.result;
  is_place = subst (λ (l : List Member). IsPlaceFor l c.args.member c.place_for-place.result) c.deref.ensures.value
      (c.place_for-place.ensures.place (subst (λ (l : List Member). AreAscending l) (sym c.deref.ensures.value) ascend));
  put = c.in_ok-insert.ensures.items;
}
