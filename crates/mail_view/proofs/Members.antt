-- The members of the objects that a client keeps.
use Rattle.std.proofs.Common.{refl}
use Rattle.get_args.specs.Wanted.{cached_wanted}
use Rattle.mail_view.specs.Laws.{EmailsHaveTheirMembers, MailboxesHaveTheirMembers, ThreadsHaveTheirMembers}

pub emails_have_their_members : EmailsHaveTheirMembers
unfolding cached_wanted
emails_have_their_members blobs e = refl

pub mailboxes_have_their_members : MailboxesHaveTheirMembers
mailboxes_have_their_members read_only m = refl

pub threads_have_their_members : ThreadsHaveTheirMembers
threads_have_their_members t = refl
