-- The counts of a mailbox, over all emails (RFC 8621, 2).
use Rattle.std.specs.Prelude.{◌≡◌, ℕ, List, [], ◌∷◌, length, map, filter, Bool, ◌&&◌, not, ◌==◌, if◌then◌else◌, codes, bytes_eq}
use Rattle.std.specs.List.{list_any}
use Rattle.mail_records.specs.declared.records.Mailbox.{Mailbox}
use Rattle.mail_records.specs.declared.records.Email.{Email}

abbrev pub has_keyword : List ℕ → Email → Bool
has_keyword keyword e = list_any (λ k. bytes_eq k keyword) e.keywords

-- an email is unread where it has neither `$seen` nor `$draft`
abbrev pub is_unread : Email → Bool
is_unread e = not (has_keyword (codes "$seen") e) && not (has_keyword (codes "$draft") e)

-- the email is in the mailbox of this number
abbrev pub is_in : ℕ → Email → Bool
is_in n e = list_any (λ m. m == n) e.mailboxes

abbrev pub emails_in : ℕ → List Email → List Email
emails_in n emails = filter (is_in n) emails

abbrev pub email_thread : Email → ℕ
email_thread e = e.thread

-- the same numbers, each once
abbrev pub each_once : List ℕ → List ℕ
each_once [] = []
each_once (x ∷ xs) = if list_any (λ y. y == x) xs then each_once xs else x ∷ each_once xs

-- the threads with an email in the mailbox
abbrev pub threads_in : ℕ → List Email → List ℕ
threads_in n emails = each_once (map email_thread (emails_in n emails))

-- some email of the thread is unread, in whichever mailbox it is
abbrev pub is_unread_thread : List Email → ℕ → Bool
is_unread_thread emails t = list_any (λ e. e.thread == t && is_unread e) emails

-- The four counts of a mailbox are those of the emails in it, and of the threads with an email in
-- it.
pub record HasCounts (emails : List Email) (m : Mailbox) : Type 0 where
  pub total_emails : m.total_emails ≡ length (emails_in m.number emails)
  pub unread_emails : m.unread_emails ≡ length (filter is_unread (emails_in m.number emails))
  pub total_threads : m.total_threads ≡ length (threads_in m.number emails)
  pub unread_threads : m.unread_threads ≡ length
      (filter (is_unread_thread emails) (threads_in m.number emails))

-- The four counts are 0, as they are of a mailbox without emails.
pub record HasNoCounts (m : Mailbox) : Type 0 where
  pub total_emails : m.total_emails ≡ 0
  pub unread_emails : m.unread_emails ≡ 0
  pub total_threads : m.total_threads ≡ 0
  pub unread_threads : m.unread_threads ≡ 0

-- Two mailboxes have the same four counts.
pub record SameCounts (m n : Mailbox) : Type 0 where
  pub total_emails : m.total_emails ≡ n.total_emails
  pub unread_emails : m.unread_emails ≡ n.unread_emails
  pub total_threads : m.total_threads ≡ n.total_threads
  pub unread_threads : m.unread_threads ≡ n.unread_threads
