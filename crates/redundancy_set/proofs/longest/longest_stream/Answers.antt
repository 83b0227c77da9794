use Rattle.std.proofs.Common.{◌≡◌, ℕ, ◌<◌, [], length, map, max, slice_index, slice_index_or, arith, sym, ap, ap₂, ◌∙◌, subst, inl, inr}
use Rattle.std.proofs.Math.ListN.{get_or-map, get_or-eq_default}
use Rattle.std.proofs.lemmas.Bool.{cases_lt}
use Rattle.std.proofs.lemmas.List.{take_all, length-map, get_or_read_under}
use Rattle.std.proofs.lemmas.Grind.{common_steps}
use Rattle.poly_code.specs.Polynomial.{IsBytes}
use Rattle.member_shares.specs.Shares.{longest}
use Rattle.redundancy_set.proofs.LongestLemmas.{longest_more, longest_none}
use Rattle.redundancy_set.proofs.longest.longest_stream.Goals as goal

pub loop-i-init : goal.loop-i-init
loop-i-init c = record { most = sym (longest_none (map (length {A = ℕ}) c.args.streams.now.items)); bytes = λ m h. absurd (omega arith) }

pub loop-i-preserved : goal.loop-i-preserved
loop-i-preserved c =
    let streams = c.args.streams.now.items in
    let lens = map (length {A = ℕ}) streams in
    let i = c.loop-i.i in
    let greater : c.max-most.result ≡ max c.loop-i.most c.len_of.result = grind (arith, common_steps) in
    let read : c.list.result.now ≡ slice_index_or streams i [] =
    c.list.ensures ∙ get_or_read_under streams i (length streams) c.index.result.now [] c.index.ensures (omega arith) (omega arith) in
    let len : c.len_of.result ≡ slice_index lens i = c.len_of.ensures.count ∙ ap (length {A = ℕ}) read ∙ sym (get_or-map (length {A = ℕ}) streams i []) in
    record {
      most = greater ∙ ap₂ max c.loop-i.invariant.most len ∙ sym (longest_more lens i (omega (arith, length-map streams (length {A = ℕ}))));
      bytes = λ m h.
          elim (cases_lt m i) [
            | inl low ↦ c.loop-i.invariant.bytes m low
            | inr high ↦
                let top : m ≡ i = omega arith in
                subst (λ t. IsBytes (slice_index_or streams t [])) (sym top) (subst (λ xs. IsBytes xs) read c.len_of.ensures.bytes)
          ];
    }

pub returns-clause-longest : goal.returns-clause-longest
returns-clause-longest c =
    c.loop-i.invariant.most
    ∙ ap longest (take_all c.loop-i.i (map (length {A = ℕ}) c.args.streams.now.items) (omega (arith, length-map c.args.streams.now.items (length {A = ℕ}))))

pub returns-clause-bytes : goal.returns-clause-bytes
returns-clause-bytes c = λ m d.
    elim (cases_lt m (length c.args.streams.now.items)) [
      | inl low ↦ c.loop-i.invariant.bytes m (omega arith) d
      | inr past ↦
          let e : slice_index_or c.args.streams.now.items m [] ≡ [] = get_or-eq_default c.args.streams.now.items [] past in
          subst (λ xs. slice_index xs d < 256) (sym e) (let z : 0 < 256 = omega arith in z)
    ]
