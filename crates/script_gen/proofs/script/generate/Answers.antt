use Rattle.std.proofs.Common.{◌≡◌, ℕ, ◌-◌, List, ◌++◌, Vec, Global, codes, sym, ap, ◌∙◌, arith, string_bytes}
use Rattle.script_gen.specs.Script.{site_lines, run_lines, runs, state_before}
use Rattle.script_gen.proofs.Steps.{runs_step, first_state, nothing_yet}
use Rattle.script_gen.proofs.script.generate.Goals as goal

pub loop-index-preserved : goal.loop-index-preserved
loop-index-preserved c =
    runs_step
    c.args.seed
    c.loop-index.index
    c.loop-index.draws.state
    c.put_run.new.draws.state
    site_lines
    (string_bytes c.loop-index.out)
    (string_bytes c.put_run.new.out)
    c.loop-index.invariant.0
    c.in_ok-put_run.ensures.state
    c.loop-index.invariant.1
    c.in_ok-put_run.ensures.text

pub loop-index-init : goal.loop-index-init
loop-index-init c = (
  c.new-draws.ensures ∙ sym (first_state c.args.seed),
  c.in_ok-out.ensures.ok ∙ nothing_yet (λ run. run_lines run (state_before c.args.seed (run - 1))) site_lines,
)

pub returns : goal.returns
returns c =
    let ended : c.loop-index.index ≡ 8 = omega arith in
    c.of.ensures
    ∙ ap (λ (v : Vec ℕ Global). v.items) c.into_bytes.ensures.value
    ∙ c.in_ok-push_str.ensures.bytes
    ∙ ap (λ (front : List ℕ). front ++ codes "scavenge\nindex list\n") c.loop-index.invariant.1
    ∙ ap (λ (count : ℕ). site_lines ++ runs c.args.seed count ++ codes "scavenge\nindex list\n") ended
