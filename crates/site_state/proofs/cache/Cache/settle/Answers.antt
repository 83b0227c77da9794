use Rattle.std.proofs.Common.{◌≡◌, ◌<◌, ◌≤◌, Bool, map, length, set, get_or, sym, ap, ◌∙◌, arith}
use Rattle.std.specs.Prelude.{if◌then◌else◌}
use Rattle.site_state.specs.declared.cache.Mark.TheVariants as mark
use Rattle.site_state.specs.Shown.{settled_if, come_to}
use Rattle.site_state.proofs.Mapped.{mapped-next, mapped-all, length-mapped, front}
use Rattle.site_state.proofs.cache.Cache.settle.Goals as goal
use Rattle.site_state.proofs.cache.Cache.settle.Goals.{then-eq, else-eq}

pub loop-set-preserved : goal.loop-set-preserved
loop-set-preserved c =
    let cur = c.loop-set.set-items in
    let i = c.loop-set.set-index in
    let old = c.deref_mut-set-items.result.now in
    let x = get_or cur i c.set-item.result in
    let lt : i < length old = omega (arith, c.loop-set-test.true) in
    elim c.if-eq.branch [
      | then-eq w ↦
          w.set-items-is
          ∙ ap (λ (b : Bool). set cur i (if b then come_to mark.Settled x else x)) (sym (sym c.eq.ensures ∙ w.if-eq.true))
          ∙ mapped-next (settled_if c.args.which) i old cur c.set-item.result lt c.loop-set.invariant
      | else-eq w ↦
          w.set-items-is
          ∙ ap (λ (b : Bool). set cur i (if b then come_to mark.Settled x else x)) (sym (sym c.eq.ensures ∙ w.if-eq.false))
          ∙ mapped-next (settled_if c.args.which) i old cur c.set-item.result lt c.loop-set.invariant
    ]

pub returns : goal.returns
returns c =
    let cur = c.loop-set.set-items in
    let i = c.loop-set.set-index in
    let old = c.deref_mut-set-items.result.now in
    let over : length old ≤ i = omega (arith, c.loop-set-test.false) in
    let len : length cur ≡ length old = ap length c.loop-set.invariant ∙ length-mapped (settled_if c.args.which) i old in
    front cur _ c.self.inside.sets.len (sym (len ∙ c.deref_mut-set-items.ensures.len))
    ∙ c.loop-set.invariant
    ∙ mapped-all (settled_if c.args.which) i old over
    ∙ ap (map (settled_if c.args.which)) (c.deref_mut-set-items.ensures.value ∙ c.self.view_is)
