use Rattle.std.proofs.Common.{List, ℕ, ◌∙◌, sym, ap, map, string_bytes, subst, ◌≡◌, codes}
use Rattle.std.specs.Bool.{Decides}
use Rattle.std.proofs.lemmas.Slice.Eq.{slice_eq-Decides}
use Rattle.std.proofs.lemmas.Bool.Decides.{Decides-eqb}
use Rattle.scr_replay.proofs.Same.{one_item, one_decided}
use Rattle.scr_replay.proofs.words.is_run.Goals as goal

pub returns-in-len1 : goal.returns-in-len1
returns-in-len1 c =
    let items = sym c.as_slice.ensures.value ∙ one_item c.as_slice.result.now c.word-item.result c.in-len1.len_at_least c.in-len1.len_below c.word-item.is in
    one_decided _ (string_bytes c.word-item.result) (codes "run") c.eq.result (ap (map (λ word. string_bytes word)) items)
    (subst (λ (bytes : List ℕ). Decides c.eq.result (bytes ≡ codes "run")) c.as_bytes.ensures.value
    (subst (λ (bytes : List ℕ). Decides c.eq.result (c.as_bytes.result.now ≡ bytes)) c.as_slice-in-len1.ensures
    (slice_eq-Decides Decides-eqb _ _ _ c.eq.ensures)))
