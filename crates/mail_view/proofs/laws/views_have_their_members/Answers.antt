use Rattle.mail_view.proofs.Members.{emails_have_their_members, mailboxes_have_their_members, threads_have_their_members}
use Rattle.mail_view.proofs.laws.views_have_their_members.Goals as goal

pub returns : goal.returns
returns c = record { emails = emails_have_their_members; mailboxes = mailboxes_have_their_members; threads = threads_have_their_members }
