use Rattle.std.proofs.Common.{◌∙◌, sym}
use Rattle.site_core.proofs.site.Site.take_number.Goals as goal

pub run_out_of_numbers-requires-clause-last : goal.run_out_of_numbers-requires-clause-last
run_out_of_numbers-requires-clause-last g c = λ tells. sym (c.requires.last tells) ∙ c.if-last-eq4294967295.true
