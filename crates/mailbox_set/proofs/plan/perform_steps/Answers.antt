use Rattle.std.proofs.Common.{map, ◌∙◌}
use Rattle.jm_json.specs.Json.{member_of}
use Rattle.mail_records.specs.Edits.{after_edits}
use Rattle.set_parts.specs.Arguments.{update_in}
use Rattle.set_parts.specs.Steps.{before_steps}
use Rattle.mailbox_updates.specs.Updates.{after_mailbox_updates}
use Rattle.mailbox_set.proofs.plan.perform_steps.Goals as goal

pub returns : goal.returns
returns c =
    λ made are gone puts.
    let ids = map (λ d. d.now) c.args.destroys.now in
    let s = after_mailbox_updates made ids (before_steps (after_edits c.args.content.now.content c.args.creates.now)) (map update_in (map member_of c.args.updates.now)) in
    let first = c.in_ok-current.ensures made ids are gone puts in
    let last = c.in_ok-perform_destroys.ensures made s are first in
    record { reported = last.reported; edits = c.from_vec.ensures ∙ last.edits }
