use Rattle.std.proofs.Common.{◌≡◌}
use Rattle.jm_json.specs.Json.{tree_of}
use Rattle.method_args.specs.Outcomes.{ExplainsCall, replied}
use Rattle.mail_calls.proofs.Queries.{err_query, ok_query}
use Rattle.mail_calls.proofs.plans.find_results.Goals as goal

pub returns-clause-reply : goal.returns-clause-reply
returns-clause-reply c =
    ok_query c.answer_query.result (λ j o. o ≡ replied (tree_of j)) c.args.account.now.history c.args.kind c.find_state-state.result c.content.result.now.content c.blobs.result.now.blobs (tree_of c.args.args.now)
    c.find_state-state.ensures c.content.ensures.content c.blobs.ensures.blobs c.answer_query.ensures.reply

pub returns-clause-fault : goal.returns-clause-fault
returns-clause-fault c =
    err_query c.answer_query.result (λ e o. ExplainsCall e o) c.args.account.now.history c.args.kind c.find_state-state.result c.content.result.now.content c.blobs.result.now.blobs (tree_of c.args.args.now)
    c.find_state-state.ensures c.content.ensures.content c.blobs.ensures.blobs c.answer_query.ensures.fault
