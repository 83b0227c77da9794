use Rattle.std.proofs.Common.{◌+◌, ◌*◌, slice_index, sym, ap, ◌∙◌}
use Rattle.member_shares.proofs.Columns.{cell_parity, cell_data}
use Rattle.redundancy_set.proofs.parts.own_part.Goals as goal

pub returns-then-has_parity : goal.returns-then-has_parity
returns-then-has_parity c =
    let n = c.args.stripes.members in
    let p = c.args.stripes.parity in
    let len = c.args.stripes.len in
    let stream = c.args.held.now.stream in
    let share = c.args.held.now.share in
    record {
      value = λ b l.
          c.part_at.ensures.value b l
          ∙ ap (λ xs. slice_index xs (c.parity_place-place.result * len + b)) c.list.ensures
          ∙ ap (λ t. slice_index share (t * len + b)) c.parity_place-place.ensures
          ∙ sym (cell_parity n p len c.args.m c.args.stripe b stream share (sym c.if-has_parity.ensures));
      small = c.part_at.ensures.small;
    }

pub returns-else-has_parity : goal.returns-else-has_parity
returns-else-has_parity c =
    let n = c.args.stripes.members in
    let p = c.args.stripes.parity in
    let len = c.args.stripes.len in
    let stream = c.args.held.now.stream in
    let share = c.args.held.now.share in
    record {
      value = λ b l.
          c.part_at-else-has_parity.ensures.value b l
          ∙ ap (λ xs. slice_index xs (c.data_place-place.result * len + b)) c.list-else-has_parity.ensures
          ∙ ap (λ t. slice_index stream (t * len + b)) c.data_place-place.ensures
          ∙ sym (cell_data n p len c.args.m c.args.stripe b stream share (sym c.if-has_parity.ensures));
      small = c.part_at-else-has_parity.ensures.small;
    }
