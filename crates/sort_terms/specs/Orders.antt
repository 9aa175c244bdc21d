-- Which of two records is before the other: by the comparators, then by number, ascending
-- (RFC 8620, 5.5, which asks that the order is the same each time).
use Rattle.std.specs.Prelude.{ℕ, Bool, List, length, ◌==◌}
use Rattle.std.specs.List.{list_any}
use Rattle.std.specs.Option.{option_cmp}
use Rattle.std.specs.Ordering.{is_lt, nat_cmp, on, then_cmp}
use Rattle.std.specs.declared.cmp.Ordering.{Ordering}
use Rattle.jm_base.specs.declared.identifiers.Kind.{Kind}
use Rattle.jm_base.specs.declared.identifiers.Kind.TheVariants.{Mailbox, Email, Thread}
use Rattle.jm_json.specs.Tree.{Tree}
use Rattle.mail_records.specs.Contents.{Content, mailbox_at}
use Rattle.filter_terms.specs.Targets.{email_in_thread_at}
use Rattle.sort_terms.specs.Comparators.{emails_cmp, equal_cmp, mailboxes_cmp}
use Rattle.sort_terms.specs.Forms.{comparators_of}
use Rattle.sort_terms.specs.Properties.{is_wide_property}
use Rattle.sort_terms.specs.declared.comparators.Comparator.{Comparator}

-- by the comparators, of the records of a kind: a record that is not there is before all others
abbrev pub records_cmp : Kind → List Comparator → Content → ℕ → ℕ → Ordering
records_cmp Email cs c = on (email_in_thread_at c.emails) (option_cmp (emails_cmp cs))
records_cmp Mailbox cs c = on (mailbox_at c) (option_cmp (mailboxes_cmp cs))
records_cmp Thread cs c = equal_cmp

abbrev pub numbers_cmp : Kind → Tree → Content → ℕ → ℕ → Ordering
numbers_cmp kind t c = then_cmp (records_cmp kind (comparators_of kind t) c) nat_cmp

-- the record of the first number is before that of the second
abbrev pub is_before : Kind → Tree → Content → ℕ → ℕ → Bool
is_before kind t c a b = is_lt (numbers_cmp kind t c a b)

-- there is no comparator, so records that are there are in the order of their numbers
abbrev pub is_by_number : Kind → Tree → Bool
is_by_number kind t = length (comparators_of kind t) == 0

-- some comparator looks at the thread
abbrev pub is_wide : Kind → Tree → Bool
is_wide kind t = list_any (λ c. is_wide_property c.property) (comparators_of kind t)
