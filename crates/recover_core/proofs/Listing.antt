-- What is found is a list that the machine may find.
use Rattle.std.proofs.Common.{◌≡◌, inl, inr, ◌<◌, ℕ, zero, suc, Bool, true, false, List, [], ◌∷◌, length, map, Some, slice_get, refl, sym, ◌∙◌, ap, subst, arith}
use Rattle.std.specs.Prelude.{IsTrue, nat_lt}
use Rattle.std.proofs.lemmas.Bool.Decides.{nat_tests}
use Rattle.scr_base.specs.declared.shape.DataId.{DataId}
use Rattle.node_device.specs.File.{MayLeave}
use Rattle.node_device.specs.DeviceState.{DeviceState}
use Rattle.member_store.specs.Names.{record_name}
use Rattle.ckpt_model.specs.declared.event.FoundRow.{FoundRow}
use Rattle.ckpt_model.specs.Machine.{Machine, Setup, Kept}
use Rattle.ckpt_model.specs.Questions.{is_kept}
use Rattle.ckpt_model.proofs.ShowsLemmas.{mapped_at}
use Rattle.site_stands.specs.Cells.{cells_of}
use Rattle.site_stands.specs.Look.{IsList, RowsRise, RowShows}
use Rattle.site_stands.specs.Site.{SiteStands, NodesStand}
use Rattle.site_stands.specs.View.{Seals}
use Rattle.site_stands.proofs.Lists.{kept_at}
use Rattle.site_stands.proofs.Rise.{KeptRise, proper_rises}
use Rattle.recover_core.specs.Seen.{IsEarlier}
use Rattle.recover_core.specs.Look.{AreFound, IsFound, row_of}
use Rattle.recover_core.specs.declared.found.FoundSet.{FoundSet}

-- what is sealed is kept
sealed_kept : (s : Setup) (states : ℕ → DeviceState) (m : Machine) → ((p : ℕ) (q : List ℕ) → MayLeave ((states p).file q) ((states p).file q).now) → NodesStand s states m → (p : ℕ) (which : DataId) (node : ℕ) → Seals s.shape (cells_of states) p which node → is_kept m which ≡ true
sealed_kept s states m law nodes p which node seals = pick (is_kept m which) refl where
  pick : (b : Bool) → is_kept m which ≡ b → is_kept m which ≡ true
  pick true e = e
  pick false e = absurd (nodes.others which e p node seals.opens.place (cells_of states p (record_name which node)) (law p (record_name which node)) seals.opens.reads seals.opens.whole seals.sealed)

-- of kept datasets that rise none has the number of another
one_of_number : (ks : List Kept) → KeptRise ks → (k other : Kept) (i j : ℕ) → slice_get ks i ≡ Some k → slice_get ks j ≡ Some other → other.dataset.which.id ≡ k.dataset.which.id → other ≡ k
one_of_number [] rise k other i j at there same = absurd (cc at)
one_of_number (x ∷ xs) rise k other zero zero at there same = cc (at, there)
one_of_number (x ∷ xs) rise k other zero (suc j) at there same = absurd (let it : x ≡ k = cc at in let lt = rise.0 j other there in omega (arith, lt, same, ap (λ (y : Kept). y.dataset.which.id) it))
one_of_number (x ∷ xs) rise k other (suc i) zero at there same = absurd (let it : x ≡ other = cc there in let lt = rise.0 i k at in omega (arith, lt, same, ap (λ (y : Kept). y.dataset.which.id) it))
one_of_number (x ∷ xs) rise k other (suc i) (suc j) at there same = one_of_number xs rise.1 k other i j at there same

-- so the earlier one of two that are kept has the smaller number
smaller : (m : Machine) → KeptRise m.kept → (a b : DataId) → is_kept m a ≡ true → is_kept m b ≡ true → IsEarlier a b → a.id < b.id
smaller m rise a b its others (inl less) = less
smaller m rise a b its others (inr same) =
    let x = kept_at a m.kept its in
    let y = kept_at b m.kept others in
    let one = one_of_number m.kept rise x.0 y.0 x.1 y.1 x.2 y.2 (ap (λ (d : DataId). d.id) y.3 ∙ sym same.0 ∙ sym (ap (λ (d : DataId). d.id) x.3)) in
    absurd (let runs : a.run ≡ b.run = sym (ap (λ (d : DataId). d.run) x.3) ∙ sym (ap (λ (k : Kept). k.dataset.which.run) one) ∙ ap (λ (d : DataId). d.run) y.3 in omega (arith, same.1, runs))

rows_rise : (xs : List FoundSet) → ((i j : ℕ) (x y : FoundSet) → i < j → slice_get xs i ≡ Some x → slice_get xs j ≡ Some y → x.desc.which.id < y.desc.which.id) → RowsRise (map row_of xs)
rows_rise [] less = tt
rows_rise (x ∷ xs) less = (
  (λ j r at. let y = mapped_at row_of xs j r at in subst (λ (row : FoundRow). x.desc.which.id < row.which.id) (sym y.2) (less 0 (suc j) x y.0 (omega arith) refl y.1)),
  rows_rise xs (λ i j a b lt ia jb. less (suc i) (suc j) a b (omega (arith, lt)) ia jb),
)

there_mapped : (xs : List FoundSet) (i : ℕ) (x : FoundSet) → slice_get xs i ≡ Some x → slice_get (map row_of xs) i ≡ Some (row_of x)
there_mapped [] i x at = absurd (cc at)
there_mapped (y ∷ ys) zero x at = let same : y ≡ x = cc at in ap (λ (z : FoundSet). Some (row_of z)) same
there_mapped (y ∷ ys) (suc i) x at = there_mapped ys i x at

is_below : (a b : ℕ) → a < b → IsTrue (nat_lt a b)
is_below a b lt = grind (arith, nat_tests, lt)

pub listed : (s : Setup) (states : ℕ → DeviceState) (m : Machine) (found : List FoundSet) → ((p : ℕ) (q : List ℕ) → MayLeave ((states p).file q) ((states p).file q).now) → SiteStands s states m → AreFound s.shape (cells_of states) found → IsList s.shape (cells_of states) (map row_of found)
listed s states m found law stands are = record {
  rise = rows_rise found (λ i j x y lt ia jb. smaller m (proper_rises s m stands.proper) x.desc.which y.desc.which (kept i x ia) (kept j y jb) (are.rising i j x y lt ia jb));
  shown = λ row l at. let y = mapped_at row_of found l row at in shown row y.0 (sym y.2) (are.sets l y.0 y.1);
  whole = λ p which node seals. let x = are.every p which node seals in (row_of x.1, x.0, there_mapped found x.0 x.1 x.2, x.3);
}
  where
    kept : (i : ℕ) (x : FoundSet) → slice_get found i ≡ Some x → is_kept m x.desc.which ≡ true
    kept i x at = let sealed = (are.sets i x at).sealed in sealed_kept s states m law stands.nodes sealed.0 x.desc.which sealed.1 sealed.2

    Shown : FoundRow → Type 0
    Shown row = RowShows s.shape (cells_of states) row × IsTrue (nat_lt (length row.lost) s.shape.nodes) × ((p : ℕ) × (node : ℕ) × Seals s.shape (cells_of states) p row.which node)

    shown : (row : FoundRow) (x : FoundSet) → row_of x ≡ row → IsFound s.shape (cells_of states) x → Shown row
    shown row x is f = subst Shown is (f.shows, is_below (length x.lost) s.shape.nodes f.few, f.sealed)
