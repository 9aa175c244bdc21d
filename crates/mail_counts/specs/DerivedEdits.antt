-- The edits that follow from edits of emails: of the threads whose emails changed, and of the
-- mailboxes whose counts did (RFC 8621, 2 and 3).
use Rattle.std.specs.Prelude.{ℕ, ◌+◌, ◌-◌, ◌^◌, min, List, [], ◌∷◌, ◌++◌, length, filter, Bool, true, false, ◌&&◌, ◌==◌, nat_le, if◌then◌else◌, Option, Some, None}
use Rattle.std.specs.List.{flat_map}
use Rattle.mail_records.specs.Contents.{Content, thread_at}
use Rattle.mail_records.specs.Edits.{after_edits}
use Rattle.mail_records.specs.declared.records.Mailbox.{Mailbox}
use Rattle.mail_records.specs.declared.records.Email.{Email}
use Rattle.mail_records.specs.declared.records.Thread.{Thread}
use Rattle.mail_records.specs.declared.edits.Edit.{Edit}
use Rattle.mail_records.specs.declared.edits.Edit.TheVariants.{PutMailbox, PutThread, DropThread}
use Rattle.mail_counts.specs.declared.mailbox_counts.MailboxCounts.{MailboxCounts}
use Rattle.mail_counts.specs.Counts.{emails_in, threads_in, is_unread, is_unread_thread}
use Rattle.mail_counts.specs.Touched.{touched_threads, emails_of, list_of_thread}

-- ---- threads

-- these numbers are the same, one by one
abbrev pub same_numbers : List ℕ → List ℕ → Bool
same_numbers [] [] = true
same_numbers (x ∷ xs) (y ∷ ys) = x == y && same_numbers xs ys
same_numbers _ _ = false

-- The edits of a thread, by the emails that it lists now and by its record. A thread without
-- emails is dropped. One that has neither emails nor a record is put without emails and then
-- dropped, so that its number is used.
abbrev pub edits_of_thread : ℕ → List ℕ → Option Thread → List Edit
edits_of_thread t [] None =
    PutThread (record { number = t; emails = [] }) false ∷ DropThread t ∷ []
edits_of_thread t [] (Some old) = DropThread t ∷ []
edits_of_thread t (n ∷ ns) None = PutThread (record { number = t; emails = n ∷ ns }) false ∷ []
edits_of_thread t (n ∷ ns) (Some old) =
    if same_numbers old.emails (n ∷ ns)
    then []
    else PutThread (record { number = t; emails = n ∷ ns }) true ∷ []

-- the edits of a thread that bring its record up to date with the emails of the content
abbrev pub thread_edits : Content → ℕ → List Edit
thread_edits c t = edits_of_thread t (list_of_thread c.emails t) (thread_at c t)

-- ---- counts

-- the four counts of a mailbox over these emails
abbrev pub counts_over : List Email → ℕ → MailboxCounts
counts_over emails n = record {
  total_emails = length (emails_in n emails);
  unread_emails = length (filter is_unread (emails_in n emails));
  total_threads = length (threads_in n emails);
  unread_threads = length (filter (is_unread_thread emails) (threads_in n emails));
}

-- a count with what is added and without what is taken: it falls to 0 at least, and rises to the
-- greatest number of 64 bits at most
abbrev pub count_after : ℕ → ℕ → ℕ → ℕ
count_after own added taken =
    if nat_le added taken then own - (taken - added) else min (own + (added - taken)) (2 ^ 64 - 1)

-- the four counts with what is added and without what is taken
abbrev pub counts_after : MailboxCounts → MailboxCounts → MailboxCounts → MailboxCounts
counts_after own added taken = record {
  total_emails = count_after own.total_emails added.total_emails taken.total_emails;
  unread_emails = count_after own.unread_emails added.unread_emails taken.unread_emails;
  total_threads = count_after own.total_threads added.total_threads taken.total_threads;
  unread_threads = count_after own.unread_threads added.unread_threads taken.unread_threads;
}

-- the counts that a mailbox has
abbrev pub own_counts : Mailbox → MailboxCounts
own_counts m = record {
  total_emails = m.total_emails;
  unread_emails = m.unread_emails;
  total_threads = m.total_threads;
  unread_threads = m.unread_threads;
}

-- a mailbox with these counts
abbrev pub with_counts : MailboxCounts → Mailbox → Mailbox
with_counts counts m = record m {
  total_emails = counts.total_emails;
  unread_emails = counts.unread_emails;
  total_threads = counts.total_threads;
  unread_threads = counts.unread_threads;
}

-- the four counts are the same
abbrev pub are_equal_counts : MailboxCounts → MailboxCounts → Bool
are_equal_counts a b =
    a.total_emails == b.total_emails && a.unread_emails == b.unread_emails
    && a.total_threads == b.total_threads && a.unread_threads == b.unread_threads

-- the put of a mailbox with these counts, if it has others
abbrev pub put_counts : MailboxCounts → Mailbox → List Edit
put_counts counts m =
    if are_equal_counts (own_counts m) counts
    then []
    else PutMailbox (with_counts counts m) true true ∷ []

-- The counts of a mailbox as some emails became others: its counts over these are added to its own,
-- and those over the emails that they were are taken.
abbrev pub counts_between : List Email → List Email → Mailbox → MailboxCounts
counts_between were are m =
    counts_after (own_counts m) (counts_over are m.number) (counts_over were m.number)

-- the put of a mailbox whose counts change so
abbrev pub count_edits : List Email → List Email → Mailbox → List Edit
count_edits were are m = put_counts (counts_between were are m) m

-- ---- both

-- What follows from edits of a content: the edits of the touched threads, in number order; then
-- the mailboxes whose counts change by the emails of these threads, in number order.
abbrev pub derived_from : Content → Content → List ℕ → List Edit
derived_from before after threads =
    flat_map (thread_edits after) threads
    ++ flat_map
    (count_edits (emails_of threads before.emails) (emails_of threads after.emails))
    after.mailboxes

abbrev pub derived_edits : Content → List Edit → List Edit
derived_edits c edits = derived_from c (after_edits c edits) (touched_threads edits)
