use Rattle.query_engine.proofs.Local.{emails_decide, mailboxes_decide}
use Rattle.query_engine.proofs.laws.queries_see_only_their_records.Goals as goal

pub returns : goal.returns
returns c = record { emails = emails_decide; mailboxes = mailboxes_decide }
