use Rattle.filter_terms.proofs.Alone.{emails_decide, mailboxes_decide}
use Rattle.filter_terms.proofs.laws.filters_see_only_their_record.Goals as goal

pub returns : goal.returns
returns c = record { emails = emails_decide; mailboxes = mailboxes_decide }
