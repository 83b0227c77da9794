use Rattle.std.proofs.Common.{◌≡◌, ◌≢◌, ◌↔◌, ℕ, true, false, Result, Ok, Err, IfOk, length, get_or, refl, sym, ap, ◌∙◌, arith}
use Rattle.std.specs.Prelude.{is_ok}
use Rattle.std.proofs.lemmas.List.Folds.{list_all_at}
use Rattle.std.proofs.lemmas.List.FromFn.{length-range_with_len, get_or-range_with_len}
use Rattle.scr_base.specs.Sets.{group_count, numbers_below, nodes_of_group, fits_set, fits_sets}
use Rattle.scr_base.specs.declared.shape.Scheme.{Scheme}
use Rattle.process_sets.specs.declared.Sets.{Sets}
use Rattle.process_sets.specs.declared.SetError.{SetError}
use Rattle.process_sets.specs.declared.SetError.TheVariants.{SetTooSmall, Memory}
use Rattle.process_sets.specs.Small.{IsFirstSmall}
use Rattle.script_reader.proofs.settings.fits_groups.Goals as goal

-- a group that is too small
unfit : (scheme : Scheme) (size nodes group : ℕ) → IsFirstSmall scheme nodes size group → fits_sets scheme size nodes ≡ false
unfit scheme size nodes group small =
    let e = get_or-range_with_len 0 (group_count nodes size) group 0 small.within in
    list_all_at _ (numbers_below (group_count nodes size)) group 0 (let l = length-range_with_len 0 (group_count nodes size) in omega (arith, l, small.within))
    (ap (λ (i : ℕ). fits_set scheme (length (nodes_of_group nodes size i))) (let h : get_or (numbers_below (group_count nodes size)) group 0 ≡ group = omega (arith, e) in h) ∙ small.small)

its_fit : (s : Sets) (scheme : Scheme) (size nodes : ℕ) → s.nodes ≡ nodes → s.scheme ≡ scheme → s.size ≡ size → true ≡ fits_sets scheme size nodes
its_fit s scheme size nodes a b e = sym s.fits ∙ rw (a, b, e) refl

-- there are sets exactly where they fit
sets_fit : (r : Result Sets SetError) (scheme : Scheme) (size nodes : ℕ) → IfOk r (λ s. s.nodes ≡ nodes) → IfOk r (λ s. s.scheme ≡ scheme) → IfOk r (λ s. s.size ≡ size)
    → ((group : ℕ) → (r ≡ Err (SetTooSmall group)) ↔ IsFirstSmall scheme nodes size group) → r ≢ Err Memory → is_ok r ≡ fits_sets scheme size nodes
sets_fit (Ok s) scheme size nodes a b e small memory = its_fit s scheme size nodes a b e
sets_fit (Err (SetTooSmall group)) scheme size nodes a b e small memory = sym (unfit scheme size nodes group ((small group).0 refl))
sets_fit (Err Memory) scheme size nodes a b e small memory = absurd (memory refl)

pub returns : goal.returns
returns c =
    c.is_ok.ensures.value ∙ sets_fit c.new.result c.args.scheme c.args.size c.args.shape.nodes c.new.ensures.nodes c.new.ensures.scheme c.new.ensures.size c.new.ensures.too_small c.new.ensures.memory
