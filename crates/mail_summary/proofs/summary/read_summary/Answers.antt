use Rattle.std.proofs.Common.{codes, ap, ◌∙◌}
use Rattle.std.specs.Option.{option_and_then}
use Rattle.mime_lines.specs.FieldOffsets.{last_value_of}
use Rattle.mail_summary.specs.Summaries.{name_by, sent_by, subject_by}
use Rattle.mail_summary.proofs.summary.read_summary.Goals as goal

pub returns-clause-value : goal.returns-clause-value
returns-clause-value c =
    let bytes = c.args.bytes.now in
    let fields = c.requires.fields in
    let subject = c.in_ok-texts.ensures.subject ∙ ap (λ fs. subject_by (last_value_of bytes (codes "Subject") fs)) fields in
    let from = c.in_ok-texts.ensures.from ∙ ap (λ fs. name_by (last_value_of bytes (codes "From") fs)) fields in
    let to = c.in_ok-texts.ensures.to ∙ ap (λ fs. name_by (last_value_of bytes (codes "To") fs)) fields in
    let sent = c.in_ok-sent.ensures.value ∙ ap (λ fs. option_and_then sent_by (last_value_of bytes (codes "Date") fs)) fields in
    let attachment = c.in_ok-attachment.ensures in
    let links = c.in_ok-links.ensures.value in
    λ i. record { links = links i; subject = subject i; from = from i; to = to i; sent = sent i; attachment = attachment i }
