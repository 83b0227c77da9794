use Rattle.std.proofs.Common.{List, sym, subst}
use Rattle.prefix_index.specs.Listing.{AreAscending, IsPlaceFor}
use Rattle.prefix_index.specs.declared.entry.Entry.{Entry}
use Rattle.prefix_index.proofs.order.put_in_order.Goals as goal

pub returns-clause-put : goal.returns-clause-put
returns-clause-put c = λ ascend. record {
  place = c.place_for-place.result;
  is_place = subst (λ (l : List Entry). IsPlaceFor l c.args.entry c.place_for-place.result) c.deref.ensures.value (c.place_for-place.ensures.place (subst (λ (l : List Entry). AreAscending l) (sym c.deref.ensures.value) ascend));
  put = c.in_ok-insert.ensures.items;
}
