use Rattle.std.proofs.Common.{sym, ap, ◌∙◌, ◌+◌}
use Rattle.std.proofs.lemmas.List.{length-map}
use Rattle.mail_records.specs.Contents.{Content}
use Rattle.state_log.specs.Logs.{note_id}
use Rattle.set_parts.specs.Outcomes.{ground_of}
use Rattle.set_parts.proofs.responses.find_new_state.Goals as goal

pub returns : goal.returns
returns c =
    λ (content : Content).
    c.find_state_after.ensures (ground_of content c.args.log.now) (sym c.state_of-before.ensures.state)
    (ap (λ n. c.args.log.now.floor + n) (length-map c.args.log.now.notes note_id) ∙ sym c.end.ensures)
