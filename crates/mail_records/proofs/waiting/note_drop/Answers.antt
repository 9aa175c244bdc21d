use Rattle.std.proofs.Common.{sym, ap, ◌∙◌}
use Rattle.mail_records.specs.Edits.{after_edit}
use Rattle.mail_records.specs.Waiting.{without_records}
use Rattle.mail_records.proofs.WithoutAll.{email-waits, thread-waits}
use Rattle.mail_records.proofs.waiting.note_drop.Goals as goal

pub returns-in-DropEmail-clause-noted : goal.returns-in-DropEmail-clause-noted
returns-in-DropEmail-clause-noted c =
    λ done d.
    let es = c.args.emails.now in
    let ts = c.args.threads.now in
    ap (λ ns. without_records d ns ts) (c.note.ensures.noted done)
    ∙ (email-waits d es ts c.in-DropEmail.number c.in-DropEmail.thread ∙ ap (after_edit (without_records d es ts)) (sym c.in-DropEmail.is))

pub returns-in-DropThread-clause-noted : goal.returns-in-DropThread-clause-noted
returns-in-DropThread-clause-noted c =
    λ done d.
    let es = c.args.emails.now in
    let ts = c.args.threads.now in
    ap (λ ns. without_records d es ns) (c.note-in-DropThread.ensures.noted done)
    ∙ (thread-waits d es ts c.in-DropThread.number ∙ ap (after_edit (without_records d es ts)) (sym c.in-DropThread.is))
