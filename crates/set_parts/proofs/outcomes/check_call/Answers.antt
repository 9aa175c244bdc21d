use Rattle.std.proofs.Common.{◌≡◌, List, ℕ, Option, None, subst}
use Rattle.std.specs.Prelude.{MatchResult}
use Rattle.mail_counts.specs.declared.plan.SetFault.{SetFault}
use Rattle.set_parts.specs.Arguments.{if_in_state}
use Rattle.set_parts.specs.Outcomes.{ExplainsRejection, Outcome, rejected_by, rejected_for}
use Rattle.set_parts.proofs.outcomes.check_call.Goals as goal

pub returns : goal.returns
returns c =
    let rest : Option Outcome = rejected_for c.args.objects c.args.state (if_in_state c.args.members.now) in
    subst (λ (o : Option (List ℕ)). MatchResult c.check_found.result (λ _. rejected_by o rest ≡ None) (λ (e : SetFault). ExplainsRejection e (rejected_by o rest))) c.find_invalid-invalid.ensures c.check_found.ensures
