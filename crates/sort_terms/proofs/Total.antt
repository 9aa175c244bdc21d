-- The order of records is total, and no two numbers are equal by it.
use Rattle.std.proofs.Common.{◌≡◌, ◌≢◌, ℕ, List, [], ◌∷◌, Bool, true, false, refl, sym, ap, ◌∙◌, arith}
use Rattle.std.specs.Ordering.{is_eq, is_lt, nat_cmp, on, ordering_reverse, ordering_then}
use Rattle.std.specs.Cmp.{IsTotalOrder, bool_cmp_total}
use Rattle.std.specs.Cmp.Lexicographic.{options_total}
use Rattle.std.specs.List.{list_all, list_any}
use Rattle.std.specs.Str.{str_to_ascii_uppercase}
use Rattle.std.specs.declared.cmp.Ordering.{Ordering}
use Rattle.std.specs.declared.cmp.Ordering.TheVariants.{Less, Equal, Greater}
use Rattle.std.proofs.lemmas.Bool.{true≢false}
use Rattle.std.proofs.lemmas.Cmp.{back_total, int_cmp_total, nat_cmp_total, nat_list_cmp_total, on_total, then_total, tied_itself}
use Rattle.jm_base.specs.declared.identifiers.Kind.{Kind}
use Rattle.jm_base.specs.declared.identifiers.Kind.TheVariants.{Mailbox as OfMailboxes, Email as OfEmails, Thread as OfThreads}
use Rattle.jm_json.specs.Tree.{Tree}
use Rattle.mail_counts.specs.Counts.{has_keyword}
use Rattle.mail_records.proofs.KeyTables.{nat_equal}
use Rattle.mail_records.specs.Contents.{Content, mailbox_at}
use Rattle.mail_records.specs.declared.records.Mailbox.{Mailbox}
use Rattle.filter_terms.specs.Targets.{EmailInThread, email_in_thread_at}
use Rattle.sort_terms.specs.Comparators.{directed, email_property_cmp, emails_cmp, mailbox_property_cmp, mailboxes_cmp, sent_seconds, text_cmp}
use Rattle.sort_terms.specs.Forms.{comparators_of}
use Rattle.sort_terms.specs.Laws.{BeforeGoesOn, NeverBeforeItself, OneIsBefore}
use Rattle.sort_terms.specs.Orders.{numbers_cmp, records_cmp}
use Rattle.sort_terms.specs.declared.comparators.Comparator.{Comparator}
use Rattle.sort_terms.specs.declared.properties.Property.{Property}
use Rattle.sort_terms.specs.declared.properties.Property.TheVariants.{ReceivedAt, Size, From, To, Subject, SentAt, HasKeyword, AllInThread, SomeInThread, SortOrder, Name}

equal_total : {X : Type 0} → IsTotalOrder (on (λ (x : X). 0) nat_cmp)
equal_total {X} = on_total (λ (x : X). 0) nat_cmp_total

text_total : IsTotalOrder text_cmp
text_total = on_total str_to_ascii_uppercase nat_list_cmp_total

email_total : (p : Property) (k : List ℕ) → IsTotalOrder (email_property_cmp p k)
email_total ReceivedAt k = on_total (λ (s : EmailInThread). s.email.received.seconds) int_cmp_total
email_total Size k = on_total (λ (s : EmailInThread). s.email.size) nat_cmp_total
email_total From k = on_total (λ (s : EmailInThread). s.email.summary.from) text_total
email_total To k = on_total (λ (s : EmailInThread). s.email.summary.to) text_total
email_total Subject k = on_total (λ (s : EmailInThread). s.email.summary.subject) text_total
email_total SentAt k = on_total sent_seconds (options_total int_cmp_total)
email_total HasKeyword k = on_total (λ (s : EmailInThread). has_keyword k s.email) bool_cmp_total
email_total AllInThread k = on_total (λ (s : EmailInThread). list_all (λ e. has_keyword k e) s.thread) bool_cmp_total
email_total SomeInThread k = on_total (λ (s : EmailInThread). list_any (λ e. has_keyword k e) s.thread) bool_cmp_total
email_total SortOrder k = equal_total
email_total Name k = equal_total

mailbox_total : (p : Property) → IsTotalOrder (mailbox_property_cmp p)
mailbox_total ReceivedAt = equal_total
mailbox_total Size = equal_total
mailbox_total From = equal_total
mailbox_total To = equal_total
mailbox_total Subject = equal_total
mailbox_total SentAt = equal_total
mailbox_total HasKeyword = equal_total
mailbox_total AllInThread = equal_total
mailbox_total SomeInThread = equal_total
mailbox_total SortOrder = on_total (λ (m : Mailbox). m.sort_order) nat_cmp_total
mailbox_total Name = on_total (λ (m : Mailbox). m.name) text_total

directed_total : {X : Type 0} {R : X → X → Ordering} (up : Bool) → IsTotalOrder R → IsTotalOrder (directed up R)
directed_total true o = o
directed_total false o = back_total o

emails_total : (cs : List Comparator) → IsTotalOrder (emails_cmp cs)
emails_total [] = equal_total
emails_total (c ∷ cs) = then_total (directed_total c.ascending (email_total c.property c.keyword)) (emails_total cs)

mailboxes_total : (cs : List Comparator) → IsTotalOrder (mailboxes_cmp cs)
mailboxes_total [] = equal_total
mailboxes_total (c ∷ cs) = then_total (directed_total c.ascending (mailbox_total c.property)) (mailboxes_total cs)

records_total : (kind : Kind) (cs : List Comparator) (c : Content) → IsTotalOrder (records_cmp kind cs c)
records_total OfEmails cs c = on_total (email_in_thread_at c.emails) (options_total (emails_total cs))
records_total OfMailboxes cs c = on_total (mailbox_at c) (options_total (mailboxes_total cs))
records_total OfThreads cs c = equal_total

-- the order of numbers is total
pub numbers_total : (kind : Kind) (t : Tree) (c : Content) → IsTotalOrder (numbers_cmp kind t c)
numbers_total kind t c = then_total (records_total kind (comparators_of kind t) c) nat_cmp_total

lt_Less : (r : Ordering) → is_lt r ≡ true → r ≡ Less
lt_Less Less e = refl
lt_Less Equal e = absurd (true≢false (sym e))
lt_Less Greater e = absurd (true≢false (sym e))

second_of : (r s : Ordering) → ordering_then r s ≡ Equal → s ≡ Equal
second_of Less s e = absurd (cc)
second_of Equal s e = e
second_of Greater s e = absurd (cc)

-- equal by the order are a number and itself alone
pub numbers_apart : (kind : Kind) (t : Tree) (c : Content) (a b : ℕ) → numbers_cmp kind t c a b ≡ Equal → a ≡ b
numbers_apart kind t c a b e =
    let same : nat_cmp a b ≡ Equal = second_of (records_cmp kind (comparators_of kind t) c a b) (nat_cmp a b) e in
    nat_equal a b (ap is_eq same)

pub irreflexive : NeverBeforeItself
irreflexive kind t c a = ap is_lt (tied_itself (numbers_total kind t c) a)

pub transitive : BeforeGoesOn
transitive kind t c a b d e f =
    ap is_lt ((numbers_total kind t c).trans a b d (lt_Less (numbers_cmp kind t c a b) e) (lt_Less (numbers_cmp kind t c b d) f))

turned : (r s : Ordering) → s ≡ ordering_reverse r → (r ≡ Equal → ⊥) → is_lt r ≡ false → is_lt s ≡ true
turned Less s e apart f = absurd (true≢false f)
turned Equal s e apart f = absurd (apart refl)
turned Greater s e apart f = ap is_lt e

pub total : OneIsBefore
total kind t c a b apart f =
    turned (numbers_cmp kind t c a b) (numbers_cmp kind t c b a) ((numbers_total kind t c).antisymm b a) (λ e. apart (numbers_apart kind t c a b e)) f
