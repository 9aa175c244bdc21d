-- The threads that edits of emails touch, and the emails of these threads (RFC 8621, 3).
use Rattle.std.specs.Prelude.{ℕ, List, [], ◌∷◌, filter, map, Bool, ◌==◌, Option, Some, None}
use Rattle.std.specs.List.{list_any}
use Rattle.std.specs.declared.cmp.Ordering.{Ordering}
use Rattle.std.specs.Ordering.{nat_cmp}
use Rattle.mail_records.specs.Contents.{email_number}
use Rattle.mail_records.specs.Edits.{named_thread}
use Rattle.mail_records.specs.OrderSteps.{put_in}
use Rattle.mail_records.specs.declared.records.Email.{Email}
use Rattle.mail_records.specs.declared.edits.Edit.{Edit}
use Rattle.mail_counts.specs.Tidy.{by_received}

-- the number is one of these
abbrev pub is_one_of : List ℕ → ℕ → Bool
is_one_of numbers n = list_any (λ x. x == n) numbers

-- the same items by an order, each once
abbrev pub sorted_once : {K : Type 0} → (K → K → Ordering) → List K → List K
sorted_once R [] = []
sorted_once R (x ∷ xs) = put_in R x (sorted_once R xs)

-- the same numbers in order, each once
abbrev pub rising : List ℕ → List ℕ
rising numbers = sorted_once nat_cmp numbers

-- with a number, if there is one
abbrev pub with_number : Option ℕ → List ℕ → List ℕ
with_number None ns = ns
with_number (Some n) ns = n ∷ ns

-- the threads that the edits name for their emails
abbrev pub threads_named : List Edit → List ℕ
threads_named [] = []
threads_named (e ∷ es) = with_number (named_thread e) (threads_named es)

-- The threads that edits touch: those that edits of emails name, in order, each once.
abbrev pub touched_threads : List Edit → List ℕ
touched_threads edits = rising (threads_named edits)

-- the emails of these threads
abbrev pub emails_of : List ℕ → List Email → List Email
emails_of threads emails = filter (λ e. is_one_of threads e.thread) emails

-- emails by the time received, and of equal times by number
abbrev pub in_order : List Email → List Email
in_order emails = sorted_once by_received emails

-- the numbers of a thread's emails, as the thread lists them
abbrev pub list_of_thread : List Email → ℕ → List ℕ
list_of_thread emails t = map email_number (in_order (filter (λ (e : Email). e.thread == t) emails))
