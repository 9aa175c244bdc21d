-- Members of groups: the emails of a thread, and the emails and the threads of a mailbox, as lists
-- of one kind of item.
use Rattle.std.specs.Prelude.{◌≡◌, ℕ, pos, List, [], ◌∷◌, map, filter, length, Bool, ◌==◌}
use Rattle.std.specs.List.{flat_map}
use Rattle.std.specs.declared.cmp.Ordering.{Ordering}
use Rattle.std.specs.Ordering.{ordering_then, nat_cmp, int_cmp}
use Rattle.mail_records.specs.declared.records.Email.{Email}
use Rattle.mail_counts.specs.declared.members.Member.{Member}
use Rattle.mail_counts.specs.declared.mailbox_counts.MailboxCounts.{MailboxCounts}

-- by group, then by the time received, then by number
abbrev pub member_cmp : Member → Member → Ordering
member_cmp a b =
    ordering_then (nat_cmp a.group b.group)
    (ordering_then (int_cmp a.received b.received) (nat_cmp a.number b.number))

-- the member is of the group
abbrev pub is_of_group : ℕ → Member → Bool
is_of_group group m = m.group == group

abbrev pub of_group : ℕ → List Member → List Member
of_group group members = filter (is_of_group group) members

-- an email in the group that is its thread
abbrev pub thread_member : Email → Member
thread_member e = record { group = e.thread; received = e.received.seconds; number = e.number }

abbrev pub thread_members : List Email → List Member
thread_members emails = map thread_member emails

-- a number in the group that is a mailbox
abbrev pub mailbox_member : ℕ → ℕ → Member
mailbox_member number mailbox = record { group = mailbox; received = pos 0; number = number }

-- what `key` is of each email, in the groups that are the email's mailboxes
abbrev pub mailbox_members : (Email → ℕ) → List Email → List Member
mailbox_members key emails = flat_map (λ e. map (mailbox_member (key e)) e.mailboxes) emails

-- the numbers of members
abbrev pub member_number : Member → ℕ
member_number m = m.number

abbrev pub member_group : Member → ℕ
member_group m = m.group

-- the numbers of the members of a group
abbrev pub listed_in : List Member → ℕ → List ℕ
listed_in members group = map member_number (of_group group members)

-- four lists of members in the groups that are mailboxes: all emails and the unread ones, all
-- threads and the unread ones
pub record Tallied : Type 0 where
  pub total_emails : List Member
  pub unread_emails : List Member
  pub total_threads : List Member
  pub unread_threads : List Member

-- how many members the group of a mailbox has in each list
abbrev pub tallied_counts : Tallied → ℕ → MailboxCounts
tallied_counts t m = record {
  total_emails = length (of_group m t.total_emails);
  unread_emails = length (of_group m t.unread_emails);
  total_threads = length (of_group m t.total_threads);
  unread_threads = length (of_group m t.unread_threads);
}
