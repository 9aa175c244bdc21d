use Rattle.std.proofs.Common.{◌≡◌, ap₂, ◌∙◌}
use Rattle.mail_records.specs.Waiting.{without_records}
use Rattle.mail_records.proofs.WithoutAll.{nothing-waits}
use Rattle.mail_records.proofs.waiting.Waiting.new.Goals as goal

pub returns : goal.returns
returns c =
    let content = c.args.content.content in
    let same : without_records content c.new.result c.new-2.result ≡ content = ap₂ (without_records content) c.new.ensures c.new-2.ensures ∙ nothing-waits content in
    λ i. record { content = same i; spare = c.args.content.spare; email_spare = c.args.content.email_spare }
