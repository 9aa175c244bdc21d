use Rattle.std.proofs.Common.{◌≡◌, ap, subst}
use Rattle.jm_json.specs.Invocations.{call_of}
use Rattle.jm_json.specs.Json.{tree_of}
use Rattle.mail_counts.specs.Plans.{Ground}
use Rattle.set_parts.specs.Outcomes.{ground_of}
use Rattle.email_set.specs.Plans.{email_set_outcome}
use Rattle.mail_calls.specs.Plans.{IsOutcomeOf, ground_in}
use Rattle.mail_calls.proofs.Sets.{answer_to, outcome_told, ground_is}
use Rattle.mail_calls.proofs.plans.plan_emails.Goals as goal

pub returns : goal.returns
returns c =
    let h = c.args.account.now.history in
    let args = tree_of c.args.call.now.args in
    let made = c.args.made.now in
    let returned = c.plan_email_set-returned in
    let outcome = email_set_outcome (ground_of c.content.result.now.content c.log.result.now) args made in
    let same = ap (λ (g : Ground). email_set_outcome g args made) (ground_is h c.content.result.now.content c.log.result.now c.content.ensures.content c.log.ensures) in
    answer_to c.answer_set.result (call_of c.args.call.now) returned.result (email_set_outcome (ground_in h) args made)
    (subst (IsOutcomeOf returned.result) same (outcome_told returned.result outcome returned.ensures.outcome returned.ensures.fault))
    c.answer_set.ensures
