use Rattle.std.proofs.Common.{◌≡◌}
use Rattle.jm_json.specs.Json.{tree_of}
use Rattle.method_args.specs.Outcomes.{ExplainsCall, replied}
use Rattle.mail_calls.proofs.Queries.{err_changes, ok_changes}
use Rattle.mail_calls.proofs.plans.find_query_changes.Goals as goal

pub returns-clause-reply : goal.returns-clause-reply
returns-clause-reply c =
    ok_changes c.answer_query_changes.result (λ j o. o ≡ replied (tree_of j)) c.args.account.now.history c.args.kind c.log-log.result.now c.content-content.result.now.content c.blobs.result.now.blobs (tree_of c.args.args.now)
    c.log-log.ensures c.content-content.ensures.content c.blobs.ensures.blobs c.answer_query_changes.ensures.reply

pub returns-clause-fault : goal.returns-clause-fault
returns-clause-fault c =
    err_changes c.answer_query_changes.result (λ e o. ExplainsCall e o) c.args.account.now.history c.args.kind c.log-log.result.now c.content-content.result.now.content c.blobs.result.now.blobs (tree_of c.args.args.now)
    c.log-log.ensures c.content-content.ensures.content c.blobs.ensures.blobs c.answer_query_changes.ensures.fault
