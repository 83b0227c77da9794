use Rattle.std.proofs.Common.{◌∙◌, ap, sym, length}
use Rattle.scr_base.specs.Bytes.{bytes_for}
use Rattle.scr_base.specs.declared.content.Content.{Content}
use Rattle.site_state.proofs.LocalCalls.{fill_length}
use Rattle.site_state.proofs.verdict.length_at.Goals as goal

pub returns-in-Fill : goal.returns-in-Fill
returns-in-Fill c = sym (ap (λ (x : Content). length (bytes_for x c.args.rank)) c.in-Fill.is ∙ fill_length c.in-Fill.seed c.args.rank c.in-Fill.len)
