use Rattle.std.proofs.Common.{subst}
use Rattle.set_parts.specs.Views.{Means}
use Rattle.email_set.proofs.WrittenFilings.{number_read}
use Rattle.email_set.proofs.filings.read_number.Goals as goal

pub returns : goal.returns
returns c =
    let o = c.read_mailbox_number.result in
    number_read c.args.id.now o (subst (λ s. Means s o) c.as_bytes.ensures.value c.read_mailbox_number.ensures)
