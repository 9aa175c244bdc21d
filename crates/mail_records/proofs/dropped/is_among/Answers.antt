use Rattle.std.proofs.Common.{◌∙◌}
use Rattle.jm_base.proofs.Searched.{search_is}
use Rattle.mail_records.proofs.WithoutAll.{sorted-increasing}
use Rattle.mail_records.proofs.dropped.is_among.Goals as goal

pub returns : goal.returns
returns c =
    λ rise.
    c.is_ok.ensures.value
    ∙ search_is c.args.numbers.now c.args.number c.binary_search.result (sorted-increasing c.args.numbers.now rise) c.binary_search.ensures.bound c.binary_search.ensures.position
