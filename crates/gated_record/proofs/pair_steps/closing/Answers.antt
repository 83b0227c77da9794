use Rattle.std.proofs.Common.{◌≡◌, ◌++◌, ◌∷◌, [], ℕ, List, take, sym, ◌∙◌, ap, arith}
use Rattle.scr_base.specs.declared.change.Change.{Change}
use Rattle.scr_base.specs.declared.change.Change.TheVariants.{Close}
use Rattle.gated_record.specs.PairStages.{closings, open_from}
use Rattle.gated_record.proofs.Plans.{grown_open, grown_shut}
use Rattle.gated_record.proofs.pair_steps.closing.Goals.{then-byte-eq-OPEN+in_ok-name+in_ok-push_back, else-byte-eq-OPEN}
use Rattle.gated_record.proofs.pair_steps.closing.Goals as goal

pub loop-byte-preserved : goal.loop-byte-preserved
loop-byte-preserved c =
    let name = c.args.name.now in
    let front = c.args.front.now in
    let i = c.loop-byte.byte-index in
    let before = c.loop-byte.invariant.changes in
    let counted = c.loop-byte.invariant.counted in record {
      counted = omega arith;
      changes = elim c.if-byte-eq-OPEN.branch [
        | then-byte-eq-OPEN+in_ok-name+in_ok-push_back w ↦
            let pushed : w.push_back.new.self.items ≡ c.loop-byte.changes.items ++ Close w.in_ok-name.name c.loop-byte.gate ∷ [] = w.in_ok-push_back.ensures.items in
            let named : w.in_ok-name.name ≡ name = w.in_ok-name.ensures in
            ap (λ v. v.items) w.changes-is ∙ pushed ∙ ap (λ (l : List Change). l ++ Close w.in_ok-name.name c.loop-byte.gate ∷ []) before
            ∙ ap (λ (n : List ℕ). closings name (open_from 0 (take i front)) ++ Close n c.loop-byte.gate ∷ []) named
            ∙ ap (λ (k : ℕ). closings name (open_from 0 (take i front)) ++ Close name k ∷ []) counted
            ∙ sym (grown_open name front i c.loop-byte-test.true w.if-byte-eq-OPEN.true)
        | else-byte-eq-OPEN w ↦ ap (λ v. v.items) w.changes-is ∙ before ∙ sym (grown_shut name front i c.loop-byte-test.true w.if-byte-eq-OPEN.false)
      ];
    }
