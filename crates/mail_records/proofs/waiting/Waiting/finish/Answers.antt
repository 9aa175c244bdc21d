use Rattle.std.proofs.Common.{◌≡◌, ap, ap₂, ◌∙◌}
use Rattle.mail_records.specs.Contents.{Content, thread_number}
use Rattle.mail_records.specs.Tables.{without_all}
use Rattle.mail_records.specs.Waiting.{without_records}
use Rattle.mail_records.proofs.waiting.Waiting.finish.Goals as goal

pub returns-clause-content : goal.returns-clause-content
returns-clause-content c =
    let old = c.self.inside.content.content in
    let threads = c.take_all-2.result.items in
    let dropped : c.drop_threads.new.content.content ≡ without_records old c.take_all.result.items threads =
    c.drop_threads.ensures.content ∙ ap (λ (x : Content). record x { threads = without_all thread_number threads x.threads }) c.drop_emails.ensures.content in
    dropped ∙ (ap₂ (without_records old) c.take_all.ensures.numbers c.take_all-2.ensures.numbers ∙ ap (λ h. h.content) c.self.view_is)
