-- Mailboxes whose counts don't change.
use Rattle.std.proofs.Common.{◌≡◌, ℕ, ◌-◌, Bool, true, false, ◌||◌, ◌&&◌, cond, eqb, List, [], ◌∷◌, ◌++◌, map, filter, length, refl, ap, ap₂, ◌∙◌, arith, ⊎_elim, eq-eqb}
use Rattle.std.specs.List.{AllByRecursion, flat_map}
use Rattle.std.proofs.lemmas.Bool.{true≢false}
use Rattle.std.proofs.lemmas.List.{nil_from_length}
use Rattle.mail_records.specs.Contents.{Content}
use Rattle.mail_records.specs.Edits.{after_edits}
use Rattle.mail_records.specs.declared.records.Mailbox.{Mailbox}
use Rattle.mail_records.specs.declared.records.Email.{Email}
use Rattle.mail_records.specs.declared.edits.Edit.{Edit}
use Rattle.mail_records.specs.declared.edits.Edit.TheVariants.{PutMailbox, DropMailbox, PutEmail, DropEmail, PutThread, DropThread}
use Rattle.mail_counts.specs.Counts.{each_once, email_thread, emails_in, is_unread, is_unread_thread}
use Rattle.mail_counts.specs.Derived.{LeavesEmails}
use Rattle.mail_counts.specs.DerivedEdits.{are_equal_counts, count_after, count_edits, counts_after, counts_over, derived_edits, derived_from, own_counts, put_counts, with_counts}
use Rattle.mail_counts.specs.Members.{member_group, of_group}
use Rattle.mail_counts.specs.Touched.{emails_of, is_one_of, rising, threads_named, touched_threads}
use Rattle.mail_counts.specs.declared.mailbox_counts.MailboxCounts.{MailboxCounts}
use Rattle.mail_counts.specs.declared.members.Member.{Member}

-- no counts
abbrev pub zero_counts : MailboxCounts
zero_counts = record { total_emails = 0; unread_emails = 0; total_threads = 0; unread_threads = 0 }

stays : (n : ℕ) → eqb n (count_after n 0 0) ≡ true
stays n = eq-eqb n (count_after n 0 0) (omega arith)

all_true : (a b c d : Bool) → a ≡ true → b ≡ true → c ≡ true → d ≡ true → (((a && b) && c) && d) ≡ true
all_true a b c d p q r s = rw p (rw q (rw r s))

pub none_counted : (m : Mailbox) (added taken : MailboxCounts) → added ≡ zero_counts → taken ≡ zero_counts → put_counts (counts_after (own_counts m) added taken) m ≡ []
none_counted m added taken one other =
    let own = own_counts m in
    let same : are_equal_counts own (counts_after own zero_counts zero_counts) ≡ true =
    all_true (eqb m.total_emails (count_after m.total_emails 0 0)) (eqb m.unread_emails (count_after m.unread_emails 0 0))
    (eqb m.total_threads (count_after m.total_threads 0 0)) (eqb m.unread_threads (count_after m.unread_threads 0 0))
    (stays m.total_emails) (stays m.unread_emails) (stays m.total_threads) (stays m.unread_threads) in
    ap₂ (λ a t. put_counts (counts_after own a t) m) one other
    ∙ ap (λ b. cond b [] (PutMailbox (with_counts (counts_after own zero_counts zero_counts) m) true true ∷ [])) same

-- a mailbox without emails
abbrev counts_by : List Email → List Email → MailboxCounts
counts_by emails inside = record {
  total_emails = length inside;
  unread_emails = length (filter is_unread inside);
  total_threads = length (each_once (map email_thread inside));
  unread_threads = length (filter (is_unread_thread emails) (each_once (map email_thread inside)));
}

pub empty_counts : (emails : List Email) (n : ℕ) → length (emails_in n emails) ≡ 0 → counts_over emails n ≡ zero_counts
empty_counts emails n none = ap (counts_by emails) (nil_from_length (emails_in n emails) none)

-- a group that no member has
pub empty_group : (n : ℕ) (ms : List Member) → is_one_of (map member_group ms) n ≡ false → of_group n ms ≡ []
empty_group n [] away = refl
empty_group n (m ∷ ms) away =
    let first : eqb m.group n ≡ false = or_first (eqb m.group n) (is_one_of (map member_group ms) n) away in
    rw first (empty_group n ms (or_second (eqb m.group n) (is_one_of (map member_group ms) n) away))
  where
    or_first : (a b : Bool) → (a || b) ≡ false → a ≡ false
    or_first true b h = absurd (true≢false h)
    or_first false b h = refl

    or_second : (a b : Bool) → (a || b) ≡ false → b ≡ false
    or_second true b h = absurd (true≢false h)
    or_second false b h = h

-- ---- edits that leave emails

no_threads : (es : List Edit) → AllByRecursion LeavesEmails es → threads_named es ≡ []
no_threads [] leave = refl
no_threads (PutMailbox item was counts ∷ es) leave = no_threads es leave.1
no_threads (DropMailbox number ∷ es) leave = no_threads es leave.1
no_threads (PutEmail item was ∷ es) leave = absurd (true≢false leave.0)
no_threads (DropEmail number thread ∷ es) leave = absurd (true≢false leave.0)
no_threads (PutThread item was ∷ es) leave = no_threads es leave.1
no_threads (DropThread number ∷ es) leave = no_threads es leave.1

none_of_none : (emails : List Email) → emails_of [] emails ≡ []
none_of_none [] = refl
none_of_none (e ∷ es) = none_of_none es

all_none : (were are : List Email) → were ≡ [] → are ≡ [] → (ms : List Mailbox) → flat_map (count_edits were are) ms ≡ []
all_none were are one other [] = refl
all_none were are one other (m ∷ ms) =
    ap₂ (λ xs ys. xs ++ ys)
    (none_counted m (counts_over are m.number) (counts_over were m.number) (ap (λ es. counts_over es m.number) other) (ap (λ es. counts_over es m.number) one))
    (all_none were are one other ms)

-- nothing follows from edits that leave emails
pub none_derived : (c : Content) (edits : List Edit) → AllByRecursion LeavesEmails edits → derived_edits c edits ≡ []
none_derived c edits leave =
    let after = after_edits c edits in
    ap (λ ns. derived_from c after ns) (no_touched edits leave)
    ∙ all_none (emails_of [] c.emails) (emails_of [] after.emails) (none_of_none c.emails) (none_of_none after.emails) after.mailboxes
  where
    no_touched : (es : List Edit) → AllByRecursion LeavesEmails es → touched_threads es ≡ []
    no_touched es all = ap rising (no_threads es all)
