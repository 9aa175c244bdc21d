-- Which records a query shows, and in which order (RFC 8620, 5.5; RFC 8621, 2.3 and 4.4).
use Rattle.std.specs.Prelude.{◌≡◌, ℕ, Bool, false, not, ◌&&◌, ◌||◌, List, [], filter, map}
use Rattle.std.specs.List.{list_any}
use Rattle.std.specs.List.Sorted.{IsStrictlySortedBy}
use Rattle.std.specs.Ordering.{is_lt, nat_cmp, ordering_then}
use Rattle.std.specs.declared.cmp.Ordering.{Ordering}
use Rattle.jm_base.specs.Splices.{has}
use Rattle.jm_base.specs.declared.identifiers.Kind.{Kind}
use Rattle.jm_base.specs.declared.identifiers.Kind.TheVariants.{Mailbox as OfMailboxes, Email as OfEmails, Thread as OfThreads}
use Rattle.mail_records.specs.Contents.{Content, email_number, mailbox_number}
use Rattle.mail_records.specs.OrderSteps.{put_all_in}
use Rattle.mail_records.specs.declared.records.Email.{Email}
use Rattle.method_args.specs.Arguments.{passes}
use Rattle.filter_terms.specs.Filters.{holds, matches}
use Rattle.filter_terms.specs.Targets.{AnEmail, EmailInThread, email_in_thread_at}
use Rattle.filter_terms.specs.Texts.{MessageTexts}
use Rattle.filter_terms.specs.ThreadScope
use Rattle.sort_terms.specs.Comparators.{emails_cmp}
use Rattle.sort_terms.specs.Forms.{comparators_of}
use Rattle.sort_terms.specs.Orders
use Rattle.sort_terms.specs.Orders.{numbers_cmp}
use Rattle.query_engine.specs.Views.{QueryTree}

-- ---- emails

-- the filter matches the email, in a store whose blobs have these texts
abbrev pub email_matches : QueryTree → (ℕ → MessageTexts) → EmailInThread → Bool
email_matches q texts s = holds OfEmails (AnEmail texts s) q.filter

-- the first email is before the second by the order; ties go by number, ascending
abbrev pub email_before : QueryTree → EmailInThread → EmailInThread → Bool
email_before q a b =
    is_lt
    (ordering_then (emails_cmp (comparators_of OfEmails q.order) a b)
    (nat_cmp a.email.number b.email.number))

-- an email of the same thread
abbrev pub in_same_thread : EmailInThread → Email → EmailInThread
in_same_thread s e = record { email = e; thread = s.thread }

-- some email of the thread matches, and is before this one
abbrev pub is_hidden : QueryTree → (ℕ → MessageTexts) → EmailInThread → Bool
is_hidden q texts s =
    list_any
    (λ e. email_matches q texts (in_same_thread s e) && email_before q (in_same_thread s e) s)
    s.thread

-- An email is shown if it matches and, where threads are collapsed, no email of its thread that
-- matches is before it. Nothing is looked at but the email and the emails of its thread.
abbrev pub shows_email : QueryTree → (ℕ → MessageTexts) → EmailInThread → Bool
shows_email q texts s = email_matches q texts s && not (q.collapse && is_hidden q texts s)

-- ---- the result list

-- the query shows the record of this number
abbrev pub shows_of : Kind → QueryTree → Content → (ℕ → MessageTexts) → ℕ → Bool
shows_of OfEmails q c texts n = passes (λ s. shows_email q texts s) (email_in_thread_at c.emails n)
shows_of OfMailboxes q c texts n = matches OfMailboxes q.filter c texts n
shows_of OfThreads q c texts n = false

abbrev pub shows : QueryTree → Content → (ℕ → MessageTexts) → ℕ → Bool
shows q c texts n = shows_of q.kind q c texts n

-- the order of numbers: by the comparators, then by number, ascending
abbrev pub order_of : QueryTree → Content → ℕ → ℕ → Ordering
order_of q c = numbers_cmp q.kind q.order c

-- The result list of a query over a content: exactly the numbers of the records that it shows, each
-- once, in its order.
pub record IsResult (q : QueryTree) (c : Content) (texts : ℕ → MessageTexts) (list : List ℕ)
    : Type 0 where
  pub rises : IsStrictlySortedBy (order_of q c) list
  pub exactly : (n : ℕ) → has list n ≡ shows q c texts n

-- the numbers of the records of a kind
abbrev pub numbers_of : Kind → Content → List ℕ
numbers_of OfMailboxes c = map mailbox_number c.mailboxes
numbers_of OfEmails c = map email_number c.emails
numbers_of OfThreads c = []

-- the numbers in an order, each once
abbrev pub sorted_by : (ℕ → ℕ → Ordering) → List ℕ → List ℕ
sorted_by R numbers = put_all_in R numbers []

-- the one result list
abbrev pub result_list : QueryTree → Content → (ℕ → MessageTexts) → List ℕ
result_list q c texts =
    sorted_by (order_of q c) (filter (shows q c texts) (numbers_of q.kind c))

-- Whether a record is shown, or where, may change where another email of its thread does.
abbrev pub is_wide : QueryTree → Bool
is_wide q = q.collapse || (ThreadScope.is_wide q.kind q.filter || Orders.is_wide q.kind q.order)
