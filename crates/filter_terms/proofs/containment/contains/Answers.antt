use Rattle.std.proofs.Common.{sym}
use Rattle.filter_terms.proofs.FirstByte.{empty_contained}
use Rattle.filter_terms.proofs.containment.contains.Goals as goal

pub returns-in-None : goal.returns-in-None
returns-in-None c = sym (empty_contained c.args.needle.now c.args.text.now c.in-None.ensures.cases)
