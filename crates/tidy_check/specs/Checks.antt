-- The tests by which a content is found to be tidy, one record after the other. Each is true if and
-- only if what it tests holds (`Rattle.mail_counts.specs.Tidy`).
use Rattle.std.specs.Prelude.{ℕ, pos, Bool, true, ◌&&◌, not, ◌==◌, nat_le, nat_lt, int_le, List, [], ◌∷◌, length, Option, Some, None, is_none, is_some}
use Rattle.std.specs.List.{list_any, list_all}
use Rattle.std.specs.Ordering.{is_lt, nat_cmp}
use Rattle.std.specs.declared.cmp.Ordering.{Ordering}
use Rattle.std.specs.Cmp.Lexicographic.{slice_cmp}
use Rattle.jm_base.specs.declared.identifiers.UtcDate.{UtcDate}
use Rattle.jm_base.specs.declared.utc_dates.TheConstants.{FIRST_TIMESTAMP, LAST_TIMESTAMP}
use Rattle.mail_records.specs.Contents.{Content, mailbox_at, thread_at}
use Rattle.jm_base.specs.declared.limits.TheConstants.{MAX_MAILBOXES_PER_EMAIL}
use Rattle.mail_records.specs.declared.records.Mailbox.{Mailbox}
use Rattle.mail_records.specs.declared.records.Email.{Email}
use Rattle.mail_records.specs.declared.records.Thread.{Thread}
use Rattle.mail_counts.specs.declared.limits.TheConstants.{MAX_EMAILS_PER_ACCOUNT, MAX_KEYWORDS_PER_EMAIL}
use Rattle.mail_counts.specs.DerivedEdits.{are_equal_counts, counts_over, own_counts, same_numbers}
use Rattle.mail_counts.specs.Forms.{is_name, is_role, is_sort_order, is_keyword}
use Rattle.mail_counts.specs.Tidy.{ancestor, is_sibling, same_role}
use Rattle.mail_counts.specs.Touched.{list_of_thread}

-- an optional value passes, if there is one
abbrev pub passes_if_any : {A : Type 0} → (A → Bool) → Option A → Bool
passes_if_any test None = true
passes_if_any test (Some x) = test x

-- the item is above this one, if there is one
abbrev pub is_above : {A : Type 0} → (A → A → Ordering) → Option A → A → Bool
is_above R None x = true
is_above R (Some before) x = is_lt (R before x)

-- each item is above the one before it, and the first is above this one, if there is one
abbrev pub rises_after : {A : Type 0} → (A → A → Ordering) → Option A → List A → Bool
rises_after R before [] = true
rises_after R before (x ∷ xs) = is_above R before x && rises_after R (Some x) xs

-- ---- numbers

-- a record's number is from 1 and below its kind's next one
abbrev pub is_in_use : ℕ → ℕ → Bool
is_in_use next n = nat_le 1 n && nat_lt n next

-- the next number of each kind is from 1
abbrev pub has_nexts : Content → Bool
has_nexts c =
    nat_le 1 c.next_mailbox && (nat_le 1 c.next_email && nat_le 1 c.next_thread)

-- ---- mailboxes

-- a mailbox by itself
abbrev pub is_well_formed : Mailbox → Bool
is_well_formed m =
    is_name m.name && (passes_if_any is_role m.role && is_sort_order m.sort_order)

abbrev pub is_mailbox : Content → ℕ → Bool
is_mailbox c n = is_some (mailbox_at c n)

-- a mailbox's parent is there, if it has one
abbrev pub has_parent : Content → Mailbox → Bool
has_parent c m = passes_if_any (is_mailbox c) m.parent

-- another mailbox has its parent and its name
abbrev pub is_name_shared : Content → Mailbox → Bool
is_name_shared c m =
    list_any (λ (x : Mailbox). not (x.number == m.number) && is_sibling m.parent m.name x)
    c.mailboxes

-- another mailbox has its role
abbrev pub is_role_shared : Content → Mailbox → Bool
is_role_shared c m =
    list_any (λ (x : Mailbox). not (x.number == m.number) && same_role x.role m.role) c.mailboxes

-- its counts are those over all emails
abbrev pub is_counted : Content → Mailbox → Bool
is_counted c m = are_equal_counts (own_counts m) (counts_over c.emails m.number)

-- a mailbox in its content, but for its chain of parents
abbrev pub is_placed : Content → Mailbox → Bool
is_placed c m =
    is_in_use c.next_mailbox m.number && (is_well_formed m && (has_parent c m
    && (not (is_name_shared c m) && (not (is_role_shared c m) && is_counted c m))))

-- the chain of parents that begins so ends
abbrev pub has_root : Content → Option ℕ → Bool
has_root c start = is_none (ancestor (length c.mailboxes) c start)

-- the chain of parents of a mailbox ends
abbrev pub is_rooted : Content → Mailbox → Bool
is_rooted c m = has_root c m.parent

-- ---- emails

-- a date of the years 0001 to 9999
abbrev pub is_utc_date : UtcDate → Bool
is_utc_date date = int_le FIRST_TIMESTAMP date.seconds && int_le date.seconds (pos LAST_TIMESTAMP)

-- these are the mailboxes of an email: they are there, one at least and few, and rise
abbrev pub are_mailboxes : Content → List ℕ → Bool
are_mailboxes c numbers =
    list_all (is_mailbox c) numbers && (nat_le 1 (length numbers)
    && (nat_le (length numbers) MAX_MAILBOXES_PER_EMAIL && rises_after nat_cmp None numbers))

-- these are the keywords of an email: of their form, few, and they rise
abbrev pub are_keywords : List (List ℕ) → Bool
are_keywords keywords =
    list_all is_keyword keywords && (nat_le (length keywords) MAX_KEYWORDS_PER_EMAIL
    && rises_after (slice_cmp nat_cmp) None keywords)

-- the dates of an email
abbrev pub has_dates : Email → Bool
has_dates e = is_utc_date e.received && passes_if_any is_utc_date e.summary.sent

abbrev pub has_thread : Content → Email → Bool
has_thread c e = is_some (thread_at c e.thread)

-- an email in its content
abbrev pub is_filed : Content → Email → Bool
is_filed c e =
    is_in_use c.next_email e.number && (are_mailboxes c e.mailboxes
    && (are_keywords e.keywords && (has_dates e && has_thread c e)))

-- ---- threads

-- a thread lists its emails, one at least
abbrev pub is_listed : Content → Thread → Bool
is_listed c t =
    is_in_use c.next_thread t.number && (nat_le 1 (length t.emails)
    && same_numbers t.emails (list_of_thread c.emails t.number))

-- ---- all

abbrev pub passes : Content → Bool
passes c =
    has_nexts c && (nat_le (length c.emails) MAX_EMAILS_PER_ACCOUNT
    && (list_all (is_filed c) c.emails && (list_all (is_rooted c) c.mailboxes
    && (list_all (is_placed c) c.mailboxes && list_all (is_listed c) c.threads))))
