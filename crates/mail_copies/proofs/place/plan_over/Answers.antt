use Rattle.std.proofs.Common.{◌≡◌, subst}
use Rattle.std.specs.Prelude.{MatchResult}
use Rattle.jm_json.specs.Json.{tree_of}
use Rattle.mail_counts.specs.declared.plan.SetFault.{SetFault}
use Rattle.set_parts.specs.Outcomes.{ExplainsSet, Outcome, plan_of, planned}
use Rattle.mail_counts.specs.declared.plan.SetPlan.{SetPlan}
use Rattle.mail_copies.proofs.Planning.{same_outcome}
use Rattle.mail_copies.proofs.place.plan_over.Goals as goal

pub returns-clause-outcome : goal.returns-clause-outcome
returns-clause-outcome c =
    subst (λ (o : Outcome). MatchResult c.place_emails.result (λ (p : SetPlan). o ≡ planned (plan_of p)) (λ (e : SetFault). ExplainsSet e o))
    (same_outcome c.args.account.now.history c.content.result.now.content c.log.result.now c.blobs.result.now.blobs (tree_of c.args.args.now) c.args.carried.now c.args.made.now c.args.moment c.content.ensures.content c.log.ensures c.blobs.ensures.blobs)
    c.place_emails.ensures
