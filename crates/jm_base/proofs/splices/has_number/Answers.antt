use Rattle.std.proofs.Common.{◌∙◌}
use Rattle.jm_base.proofs.Searched.{search_is}
use Rattle.jm_base.proofs.splices.has_number.Goals as goal

pub returns : goal.returns
returns c = c.is_ok.ensures.value ∙ search_is c.args.sorted.now c.args.number c.binary_search.result c.requires c.binary_search.ensures.bound c.binary_search.ensures.position
