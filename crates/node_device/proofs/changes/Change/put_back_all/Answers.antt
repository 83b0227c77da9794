use Rattle.std.proofs.Common.{◌≡◌, ◌+◌, ◌-◌, ℕ, length, take, slice_index, sym, ◌∙◌, ap, arith}
use Rattle.std.proofs.lemmas.List.{take_all}
use Rattle.node_device.specs.Changes.{byte_before_all}
use Rattle.node_device.proofs.ChangeLists.{put_back_more}
use Rattle.node_device.proofs.changes.Change.put_back_all.Goals as goal

pub loop-i-init : goal.loop-i-init
loop-i-init c = λ k lt. ap (λ l. byte_before_all l k (slice_index c.args.bytes.now k)) (take_all (length c.args.changes.now - 0) c.args.changes.now (omega arith))

pub loop-i-preserved : goal.loop-i-preserved
loop-i-preserved c = λ k lt.
    let cs = c.args.changes.now in
    let i = c.loop-i.i in
    let next : length cs - (i + 1) ≡ length cs - 1 - i = omega arith in
    ap (λ (j : ℕ). byte_before_all (take j cs) k (slice_index c.put_back.new.bytes k)) next
    ∙ put_back_more cs (length cs - 1 - i) (length cs - i) c.index-changes-changes.result k (slice_index c.loop-i.bytes k) (slice_index c.put_back.new.bytes k)
    (omega (arith, c.loop-i-test.true)) c.index-changes-changes.is (omega (arith, c.loop-i-test.true)) (c.put_back.ensures k (omega (arith, lt, c.loop-i.auto.bytes)))
    ∙ c.loop-i.invariant k lt

pub returns : goal.returns
returns c = λ k lt.
    let none : length c.args.changes.now - c.loop-i.i ≡ 0 = omega (arith, c.loop-i-test.false) in
    ap (λ (n : ℕ). byte_before_all (take n c.args.changes.now) k (slice_index c.loop-i.bytes k)) (sym none) ∙ c.loop-i.invariant k lt
