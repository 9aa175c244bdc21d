use Rattle.sort_terms.proofs.Alone.{emails_decide, mailboxes_decide}
use Rattle.sort_terms.proofs.laws.orders_see_only_their_records.Goals as goal

pub returns : goal.returns
returns c = record { emails = emails_decide; mailboxes = mailboxes_decide }
