use Rattle.std.proofs.Common.{◌∙◌}
use Rattle.mail_counts.proofs.Sorted.{one_searched}
use Rattle.mail_counts.proofs.touched.is_one_of.Goals as goal

pub returns : goal.returns
returns c = c.is_ok.ensures.value ∙ one_searched c.args.numbers.now c.args.number c.binary_search.result c.requires.rise c.binary_search.ensures.position
