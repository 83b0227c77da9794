use Rattle.std.proofs.Common.{◌<◌, length, sym, ap, subst, rules, Ok, Err, arith}
use Rattle.std.specs.List.Sorted.{IsBinarySearchResult}
use Rattle.std.specs.Ordering.{nat_cmp}
use Rattle.std.proofs.lemmas.List.{get_or_read}
use Rattle.std.proofs.lemmas.List.Sorted.{answers_always}
use Rattle.commit_core.proofs.Index.{none_out}
use Rattle.commit_core.proofs.Searched.{searched_ok, searched_err}
use Rattle.commit_core.proofs.outs.take_out.Goals as goal

pub returns-in-Ok-clause-found : goal.returns-in-Ok-clause-found
returns-in-Ok-clause-found c =
    let outs = c.args.outs.now.items in
    let at = c.in-Ok.at in
    let by_number = c.binary_search_by_key.ensures.position (λ out. out.number) (answers_always _ _ _ (λ f a r g called. search rules)) in
    let here : IsBinarySearchResult (λ out. nat_cmp out.number c.args.number) outs (Ok at) =
    subst (λ r. IsBinarySearchResult (λ out. nat_cmp out.number c.args.number) outs r) c.in-Ok.is (rw c.deref.ensures.value at by_number) in
    let low : at < length outs = omega (arith, c.in-Ok.ensures.bound) in
    record {
      had = record { at = at; within = low; number_is = searched_ok outs c.requires c.args.number at here; place_is = ap (λ o. o.place) (sym (get_or_read outs at c.remove.result low c.remove.ensures.value none_out)) };
      rest = c.remove.ensures.items;
    }

pub returns-in-Err-clause-none : goal.returns-in-Err-clause-none
returns-in-Err-clause-none c =
    let outs = c.args.outs.now.items in
    let by_number = c.binary_search_by_key.ensures.position (λ out. out.number) (answers_always _ _ _ (λ f a r g called. search rules)) in
    let here : IsBinarySearchResult (λ out. nat_cmp out.number c.args.number) outs (Err c.in-Err.field-0) =
    subst (λ r. IsBinarySearchResult (λ out. nat_cmp out.number c.args.number) outs r) c.in-Err.is (rw c.deref.ensures.value at by_number) in
    searched_err outs c.requires c.args.number c.in-Err.field-0 here
