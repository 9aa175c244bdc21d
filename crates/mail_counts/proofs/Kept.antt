-- What edits that leave emails as they are leave of threads and counts.
use Rattle.std.proofs.Common.{◌≡◌, ℕ, ◌+◌, ◌<◌, ◌≤◌, true, false, not, eqb, filter, length, List, [], ◌∷◌, ◌++◌, Option, Some, None, is_some, refl, sym, ap, ◌∙◌, subst, arith}
use Rattle.std.specs.List.{AllByRecursion}
use Rattle.std.proofs.lemmas.Bool.{true≢false}
use Rattle.std.proofs.lemmas.List.{append-nil}
use Rattle.mail_records.specs.Contents.{Content, mailbox_at, mailbox_number}
use Rattle.mail_records.specs.Edits.{after_edit, after_edits, Fits, AllFit}
use Rattle.mail_records.specs.declared.edits.Edit.{Edit}
use Rattle.mail_records.specs.declared.edits.Edit.TheVariants.{PutMailbox, DropMailbox, PutEmail, DropEmail, PutThread, DropThread}
use Rattle.mail_records.specs.declared.records.Mailbox.{Mailbox}
use Rattle.mail_records.specs.declared.records.Email.{Email}
use Rattle.mail_records.proofs.Tables.{All-put, All-kept}
use Rattle.mail_records.proofs.Growth.{found, all_map}
use Rattle.mail_counts.specs.Counts.{HasCounts, SameCounts, emails_in, threads_in, is_unread, is_unread_thread}
use Rattle.mail_counts.specs.Derived.{IsOfMailbox, LeavesEmails, KeepsCounts, AllKeepCounts, AreCounted}
use Rattle.mail_counts.specs.Tidy.{IsTidy, IsPlaced, AreThreadsTidy}
use Rattle.mail_counts.proofs.Growth.{HasCounts-none, emails_in-above, mailboxes-below}

-- the mailboxes that emails name are below the next number
abbrev AreBelow : Content → Type 0
AreBelow c = AllByRecursion (λ (e : Email). AllByRecursion (λ x. x < c.next_mailbox) e.mailboxes) c.emails

pub there : {R : Type 0} (o : Option R) → is_some o ≡ true → (x : R) × (o ≡ Some x)
there None h = absurd (true≢false (sym h))
there (Some x) h = (x, refl)

-- a mailbox with the number and the counts of another has right counts where the other has
pub same_counts : (emails : List Email) (m n : Mailbox) → m.number ≡ n.number → SameCounts m n → HasCounts emails m → HasCounts emails n
same_counts emails m n is same counts = record {
  total_emails = subst (λ k. n.total_emails ≡ length (emails_in k emails)) is (sym same.total_emails ∙ counts.total_emails);
  unread_emails = subst (λ k. n.unread_emails ≡ length (filter is_unread (emails_in k emails))) is (sym same.unread_emails ∙ counts.unread_emails);
  total_threads = subst (λ k. n.total_threads ≡ length (threads_in k emails)) is (sym same.total_threads ∙ counts.total_threads);
  unread_threads = subst (λ k. n.unread_threads ≡ length (filter (is_unread_thread emails) (threads_in k emails))) is (sym same.unread_threads ∙ counts.unread_threads);
}

-- edits that leave emails leave them all
pub emails-after_edits : (es : List Edit) (c : Content) → AllByRecursion LeavesEmails es → (after_edits c es).emails ≡ c.emails
emails-after_edits [] c leave = refl
emails-after_edits (PutMailbox item was counts ∷ es) c leave = emails-after_edits es (after_edit c (PutMailbox item was counts)) leave.1
emails-after_edits (DropMailbox number ∷ es) c leave = emails-after_edits es (after_edit c (DropMailbox number)) leave.1
emails-after_edits (PutEmail item was ∷ es) c leave = absurd (true≢false leave.0)
emails-after_edits (DropEmail number thread ∷ es) c leave = absurd (true≢false leave.0)
emails-after_edits (PutThread item was ∷ es) c leave = emails-after_edits es (after_edit c (PutThread item was)) leave.1
emails-after_edits (DropThread number ∷ es) c leave = emails-after_edits es (after_edit c (DropThread number)) leave.1

below_more : (c : Content) (n : ℕ) → c.next_mailbox ≤ n → AreBelow c → AllByRecursion (λ (e : Email). AllByRecursion (λ x. x < n) e.mailboxes) c.emails
below_more c n le below =
    all_map (λ (e : Email). AllByRecursion (λ x. x < c.next_mailbox) e.mailboxes) (λ (e : Email). AllByRecursion (λ x. x < n) e.mailboxes) c.emails
    (λ (e : Email) (low : AllByRecursion (λ x. x < c.next_mailbox) e.mailboxes). all_map (λ x. x < c.next_mailbox) (λ x. x < n) e.mailboxes (λ (x : ℕ) (lt : x < c.next_mailbox). omega arith) low) below

AreBelow-after_edit : (c : Content) (e : Edit) → Fits c e → LeavesEmails e → AreBelow c → AreBelow (after_edit c e)
AreBelow-after_edit c (PutMailbox item true counts) fit leave below = below
AreBelow-after_edit c (PutMailbox item false counts) fit leave below =
    let is : item.number ≡ c.next_mailbox = fit.1 refl in below_more c (item.number + 1) (omega arith) below
AreBelow-after_edit c (DropMailbox number) fit leave below = below
AreBelow-after_edit c (PutEmail item was) fit leave below = absurd (true≢false leave)
AreBelow-after_edit c (DropEmail number thread) fit leave below = absurd (true≢false leave)
AreBelow-after_edit c (PutThread item was) fit leave below = below
AreBelow-after_edit c (DropThread number) fit leave below = below

AreCounted-after_edit : (c : Content) (e : Edit) → Fits c e → LeavesEmails e → KeepsCounts c e → AreBelow c → AreCounted c → AreCounted (after_edit c e)
AreCounted-after_edit c (PutMailbox item true counts) fit leave keep below counted =
    let old = there (mailbox_at c item.number) (sym fit.0) in
    let was = found (HasCounts c.emails) mailbox_number item.number old.0 c.mailboxes counted old.1 in
    All-put (HasCounts c.emails) mailbox_number item (same_counts c.emails old.0 item was.1 (keep.1 old.0 old.1) was.0) c.mailboxes counted
AreCounted-after_edit c (PutMailbox item false counts) fit leave keep below counted =
    let none : emails_in item.number c.emails ≡ [] = subst (λ n. emails_in n c.emails ≡ []) (sym (fit.1 refl)) (emails_in-above c.next_mailbox c.emails below) in
    All-put (HasCounts c.emails) mailbox_number item (HasCounts-none c.emails item none (keep.0 refl)) c.mailboxes counted
AreCounted-after_edit c (DropMailbox number) fit leave keep below counted = All-kept (HasCounts c.emails) (λ (x : Mailbox). not (eqb x.number number)) c.mailboxes counted
AreCounted-after_edit c (PutEmail item was) fit leave keep below counted = absurd (true≢false leave)
AreCounted-after_edit c (DropEmail number thread) fit leave keep below counted = absurd (true≢false leave)
AreCounted-after_edit c (PutThread item was) fit leave keep below counted = counted
AreCounted-after_edit c (DropThread number) fit leave keep below counted = counted

counted : (es : List Edit) (c : Content) → AllFit c es → AllByRecursion LeavesEmails es → AllKeepCounts c es → AreBelow c → AreCounted c → AreCounted (after_edits c es)
counted [] c fit leave keep below is = is
counted (e ∷ es) c fit leave keep below is =
    counted es (after_edit c e) fit.1 leave.1 keep.1 (AreBelow-after_edit c e fit.0 leave.0 below) (AreCounted-after_edit c e fit.0 leave.0 keep.0 below is)

-- From a tidy content, edits that leave emails, put new mailboxes with counts 0 and others with those that they had, leave
-- each mailbox with its counts.
pub AreCounted-after_edits : (es : List Edit) (c : Content) → AllFit c es → AllByRecursion LeavesEmails es → IsTidy c → AllKeepCounts c es → AreCounted (after_edits c es)
AreCounted-after_edits es c fit leave tidy keep =
    counted es c fit leave keep (mailboxes-below c tidy.numbered tidy.emails)
    (all_map (IsPlaced c) (HasCounts c.emails) c.mailboxes (λ (m : Mailbox) (p : IsPlaced c m). p.counts) tidy.mailboxes.placed)

-- edits of mailboxes leave the threads those of the emails
pub AreThreadsTidy-after_edits : (es : List Edit) (c : Content) → AllByRecursion IsOfMailbox es → AreThreadsTidy c → AreThreadsTidy (after_edits c es)
AreThreadsTidy-after_edits [] c of tidy = tidy
AreThreadsTidy-after_edits (PutMailbox item was counts ∷ es) c of tidy =
    AreThreadsTidy-after_edits es (after_edit c (PutMailbox item was counts)) of.1 (record { named = tidy.named; lists = tidy.lists })
AreThreadsTidy-after_edits (DropMailbox number ∷ es) c of tidy =
    AreThreadsTidy-after_edits es (after_edit c (DropMailbox number)) of.1 (record { named = tidy.named; lists = tidy.lists })
AreThreadsTidy-after_edits (PutEmail item was ∷ es) c of tidy = let no = of.0 in absurd (cc)
AreThreadsTidy-after_edits (DropEmail number thread ∷ es) c of tidy = let no = of.0 in absurd (cc)
AreThreadsTidy-after_edits (PutThread item was ∷ es) c of tidy = let no = of.0 in absurd (cc)
AreThreadsTidy-after_edits (DropThread number ∷ es) c of tidy = let no = of.0 in absurd (cc)

-- edits of mailboxes leave emails
pub of_mailboxes_leave : (es : List Edit) → AllByRecursion IsOfMailbox es → AllByRecursion LeavesEmails es
of_mailboxes_leave [] of = tt
of_mailboxes_leave (PutMailbox item was counts ∷ es) of = (refl, of_mailboxes_leave es of.1)
of_mailboxes_leave (DropMailbox number ∷ es) of = (refl, of_mailboxes_leave es of.1)
of_mailboxes_leave (PutEmail item was ∷ es) of = let no = of.0 in absurd (cc)
of_mailboxes_leave (DropEmail number thread ∷ es) of = let no = of.0 in absurd (cc)
of_mailboxes_leave (PutThread item was ∷ es) of = let no = of.0 in absurd (cc)
of_mailboxes_leave (DropThread number ∷ es) of = let no = of.0 in absurd (cc)

-- with no edits after them
pub and_none : (P : Content → Type 0) (c : Content) (es more : List Edit) → more ≡ [] → P (after_edits c es) → P (after_edits c (es ++ more))
and_none P c es more none holds = subst (λ (all : List Edit). P (after_edits c all)) (sym (ap (λ (tail : List Edit). es ++ tail) none ∙ append-nil es)) holds
