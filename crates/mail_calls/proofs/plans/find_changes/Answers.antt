use Rattle.std.proofs.Common.{◌≡◌}
use Rattle.jm_json.specs.Json.{tree_of}
use Rattle.change_calls.specs.Responses.{changes_outcome}
use Rattle.method_args.specs.Outcomes.{ExplainsCall, replied}
use Rattle.mail_calls.proofs.Changes.{err_at, kept, ok_at}
use Rattle.mail_calls.proofs.plans.find_changes.Goals as goal

pub returns-clause-reply : goal.returns-clause-reply
returns-clause-reply c =
    let h = c.args.account.now.history in
    ok_at c.answer_changes.result c.log.result.now (λ j g. changes_outcome g c.args.kind (tree_of c.args.args.now) ≡ replied (tree_of j)) h (kept h c.log.result.now c.log.ensures c.has_fitting_edits.ensures) c.answer_changes.ensures.reply

pub returns-clause-fault : goal.returns-clause-fault
returns-clause-fault c =
    let h = c.args.account.now.history in
    err_at c.answer_changes.result c.log.result.now (λ fault g. ExplainsCall fault (changes_outcome g c.args.kind (tree_of c.args.args.now))) h (kept h c.log.result.now c.log.ensures c.has_fitting_edits.ensures) c.answer_changes.ensures.fault
