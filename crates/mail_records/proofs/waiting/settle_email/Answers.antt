use Rattle.std.proofs.Common.{ap}
use Rattle.jm_base.specs.Splices.{has}
use Rattle.mail_records.proofs.WithoutAll.{emails-dropped}
use Rattle.mail_records.proofs.waiting.settle_email.Goals as goal

pub returns-clause-past : goal.returns-clause-past
returns-clause-past c = ap (λ ns. has ns c.args.number) c.take_all.ensures.rest

pub returns-clause-content : goal.returns-clause-content
returns-clause-content c =
    λ others.
    emails-dropped c.args.content.now.content c.drop_emails.new.content.content c.args.emails.now c.take_all.new.self others c.take_all.result.items
    c.take_all.ensures.numbers c.take_all.ensures.rest c.drop_emails.ensures.content
