use Rattle.std.proofs.Common.{◌∙◌}
use Rattle.jm_base.proofs.Searched.{search_is}
use Rattle.mail_records.proofs.WithoutAll.{sorted-increasing}
use Rattle.client_cache.proofs.kinds.has_number.Goals as goal

pub returns : goal.returns
returns c =
    λ rise.
    c.is_ok.ensures.value
    ∙ search_is c.args.sorted.now c.args.number c.binary_search.result (sorted-increasing c.args.sorted.now rise) c.binary_search.ensures.bound c.binary_search.ensures.position
