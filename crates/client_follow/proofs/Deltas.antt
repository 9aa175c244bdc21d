-- A list that the changes of its query bring up to date.
use Rattle.std.proofs.Common.{ap, ◌∙◌}
use Rattle.mail_records.specs.Histories.{content_at, content_of}
use Rattle.query_engine.specs.Queries.{result_list}
use Rattle.query_engine.proofs.Results.{is_the_result}
use Rattle.query_changes.specs.Deltas.{delta_of}
use Rattle.query_changes.proofs.UpToDate.{brought}
use Rattle.jm_base.specs.Splices.{splice}
use Rattle.client_cache.specs.Progress.{by_splice}
use Rattle.client_follow.specs.Laws.{DeltasArrive}

pub deltas_arrive : DeltasArrive
deltas_arrive h q texts s state index c r sound reached had =
    ap (λ ids. by_splice c r index state (splice ids (delta_of h q texts s).removed (delta_of h q texts s).added)) had
    ∙ ap (by_splice c r index state)
    (brought h q texts s (result_list q (content_at h s) texts) (result_list q (content_of h) texts) sound reached (is_the_result q (content_at h s) texts) (is_the_result q (content_of h) texts))
