use Rattle.std.proofs.Common.{◌∙◌}
use Rattle.jm_base.proofs.Searched.{search_is}
use Rattle.query_changes.proofs.Touching.{sorted_rising}
use Rattle.query_changes.proofs.touched.is_among.Goals as goal

pub returns : goal.returns
returns c =
    c.is_ok.ensures.value
    ∙ search_is c.args.numbers.now c.args.number c.binary_search.result (sorted_rising c.args.numbers.now c.requires) c.binary_search.ensures.bound c.binary_search.ensures.position
