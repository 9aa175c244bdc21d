-- How a comparator compares two emails or two mailboxes (RFC 8620, 5.5; RFC 8621, 2.3 and 4.4.2).
use Rattle.std.specs.Prelude.{ℕ, ℤ, List, [], ◌∷◌, Bool, true, false, Option, if◌then◌else◌, option_map}
use Rattle.std.specs.List.{list_all, list_any}
use Rattle.std.specs.Option.{option_cmp}
use Rattle.std.specs.Ordering.{bool_cmp, flip_args, int_cmp, nat_cmp, on, then_cmp}
use Rattle.std.specs.Cmp.Lexicographic.{slice_cmp}
use Rattle.std.specs.Str.{str_to_ascii_uppercase}
use Rattle.std.specs.declared.cmp.Ordering.{Ordering}
use Rattle.mail_counts.specs.Counts.{has_keyword}
use Rattle.mail_records.specs.declared.records.Mailbox.{Mailbox}
use Rattle.filter_terms.specs.Targets.{EmailInThread}
use Rattle.sort_terms.specs.declared.comparators.Comparator.{Comparator}
use Rattle.sort_terms.specs.declared.properties.Property.{Property}
use Rattle.sort_terms.specs.declared.properties.Property.TheVariants.{ReceivedAt, Size, From, To, Subject, SentAt, HasKeyword, AllInThread, SomeInThread, SortOrder, Name}

-- by bytes, with ASCII letters raised to upper case (RFC 4790, 9.2: i;ascii-casemap)
abbrev pub text_cmp : List ℕ → List ℕ → Ordering
text_cmp = on str_to_ascii_uppercase (slice_cmp nat_cmp)

-- all are equal
abbrev pub equal_cmp : {X : Type 0} → X → X → Ordering
equal_cmp {X} = on (λ (x : X). 0) nat_cmp

-- the time that the message says it was sent at, in Unix seconds
abbrev pub sent_seconds : EmailInThread → Option ℤ
sent_seconds s = option_map (λ date. date.seconds) s.email.summary.sent

-- Ascending, by a property of an email or of its thread: an absent date is before every date, false
-- is before true, and the subject is without the prefixes of replies and forwards.
abbrev pub email_property_cmp : Property → List ℕ → EmailInThread → EmailInThread → Ordering
email_property_cmp ReceivedAt k = on (λ s. s.email.received.seconds) int_cmp
email_property_cmp Size k = on (λ s. s.email.size) nat_cmp
email_property_cmp From k = on (λ s. s.email.summary.from) text_cmp
email_property_cmp To k = on (λ s. s.email.summary.to) text_cmp
email_property_cmp Subject k = on (λ s. s.email.summary.subject) text_cmp
email_property_cmp SentAt k = on sent_seconds (option_cmp int_cmp)
email_property_cmp HasKeyword k = on (λ s. has_keyword k s.email) bool_cmp
email_property_cmp AllInThread k = on (λ s. list_all (λ e. has_keyword k e) s.thread) bool_cmp
email_property_cmp SomeInThread k = on (λ s. list_any (λ e. has_keyword k e) s.thread) bool_cmp
email_property_cmp SortOrder k = equal_cmp
email_property_cmp Name k = equal_cmp

-- ascending, by a property of a mailbox
abbrev pub mailbox_property_cmp : Property → Mailbox → Mailbox → Ordering
mailbox_property_cmp SortOrder = on (λ m. m.sort_order) nat_cmp
mailbox_property_cmp Name = on (λ m. m.name) text_cmp
mailbox_property_cmp _ = equal_cmp

-- descending order is ascending order reversed, absent dates too
abbrev pub directed : {X : Type 0} → Bool → (X → X → Ordering) → X → X → Ordering
directed true R = R
directed false R = flip_args R

-- by each comparator in turn, up to the first by which they differ
abbrev pub emails_cmp : List Comparator → EmailInThread → EmailInThread → Ordering
emails_cmp [] = equal_cmp
emails_cmp (c ∷ cs) =
    then_cmp (directed c.ascending (email_property_cmp c.property c.keyword)) (emails_cmp cs)

abbrev pub mailboxes_cmp : List Comparator → Mailbox → Mailbox → Ordering
mailboxes_cmp [] = equal_cmp
mailboxes_cmp (c ∷ cs) =
    then_cmp (directed c.ascending (mailbox_property_cmp c.property)) (mailboxes_cmp cs)
