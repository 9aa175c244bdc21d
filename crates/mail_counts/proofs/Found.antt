-- The edits that are found through touched threads, emails and mailboxes are those that follow.
use Rattle.std.proofs.Common.{◌≡◌, ℕ, Bool, true, false, ◌||◌, cond, eqb, List, [], ◌∷◌, ◌++◌, map, filter, length, Some, refl, sym, ap, ap₂, ◌∙◌, subst, ⊎_elim, eqb-true, eq-eqb}
use Rattle.std.specs.List.{flat_map}
use Rattle.std.proofs.lemmas.Bool.{cases_Bool, true≢false}
use Rattle.mail_records.specs.Commits.{NumbersRise}
use Rattle.mail_records.specs.Contents.{AreTables, Content, email_number, mailbox_number, thread_at}
use Rattle.mail_records.specs.Edits.{after_edits}
use Rattle.mail_records.specs.Tables.{IsTable, lookup}
use Rattle.mail_records.specs.declared.records.Email.{Email}
use Rattle.mail_records.specs.declared.edits.Edit.{Edit}
use Rattle.mail_counts.specs.DerivedEdits.{count_edits, counts_after, counts_over, derived_edits, derived_from, edits_of_thread, own_counts, put_counts, thread_edits}
use Rattle.mail_counts.specs.Members.{Tallied, member_cmp, member_group, tallied_counts, thread_members}
use Rattle.mail_counts.specs.Overlay.{all_listed, emails_among, emails_named, if_of_threads}
use Rattle.mail_counts.specs.Steps.{counted_edits, listed_edits}
use Rattle.mail_counts.specs.Touched.{emails_of, is_one_of, rising, sorted_once, touched_threads}
use Rattle.mail_counts.specs.declared.mailbox_counts.MailboxCounts.{MailboxCounts}
use Rattle.mail_counts.specs.declared.members.Member.{Member}
use Rattle.mail_counts.proofs.Covers.{covers, table_of_numbers}
use Rattle.mail_counts.proofs.Entries.{neither}
use Rattle.mail_counts.proofs.Groups.{filter_within, group-list, table_kept}
use Rattle.mail_counts.proofs.Laid.{email_as_before}
use Rattle.mail_counts.proofs.Nothing.{empty_counts, empty_group, none_counted, zero_counts}
use Rattle.mail_counts.proofs.Sorted.{is_one_of-rising, rise-rising}

-- ---- the emails of the touched threads

listed_filter : (ts : List ℕ) (es : List Email) → flat_map (if_of_threads ts) es ≡ emails_of ts es
listed_filter ts [] = refl
listed_filter ts (e ∷ es) =
    ⊎_elim
    (λ (t : is_one_of ts e.thread ≡ true). rw t (ap (λ zs. e ∷ zs) (listed_filter ts es)))
    (λ (t : is_one_of ts e.thread ≡ false). rw t (listed_filter ts es))
    (cases_Bool (is_one_of ts e.thread))

-- each email of the threads has its number among these
abbrev pub HasAll : List ℕ → List Email → List ℕ → Type 0
HasAll ts rows numbers = (e : Email) → lookup email_number e.number rows ≡ Some e → is_one_of ts e.thread ≡ true → is_one_of numbers e.number ≡ true

pub among_is : (ts numbers : List ℕ) (rows : List Email) → IsTable email_number rows → NumbersRise numbers → HasAll ts rows numbers
    → emails_among ts rows numbers ≡ emails_of ts rows
among_is ts numbers rows table rise has =
    covers email_number (if_of_threads ts) rows numbers table (table_of_numbers numbers rise)
    (λ e there away. ⊎_elim
    (λ (t : is_one_of ts e.thread ≡ true). absurd (true≢false (sym (has e there t) ∙ away)))
    (λ (t : is_one_of ts e.thread ≡ false). ap (λ b. cond b (e ∷ []) []) t)
    (cases_Bool (is_one_of ts e.thread)))
    ∙ listed_filter ts rows

-- after the edits too: an email that no edit names is as it was
pub has_all_after : (c : Content) (edits : List Edit) (ts numbers : List ℕ) → ((n : ℕ) → is_one_of (emails_named edits) n ≡ true → is_one_of numbers n ≡ true)
    → HasAll ts c.emails numbers → HasAll ts (after_edits c edits).emails numbers
has_all_after c edits ts numbers named has e there of =
    ⊎_elim
    (λ (t : is_one_of (emails_named edits) e.number ≡ true). named e.number t)
    (λ (t : is_one_of (emails_named edits) e.number ≡ false). has e (sym (email_as_before edits c e.number t) ∙ there) of)
    (cases_Bool (is_one_of (emails_named edits) e.number))

-- ---- threads

flat_alike : {A B : Type 0} (f g : A → List B) (xs : List A) → ((x : A) → f x ≡ g x) → flat_map f xs ≡ flat_map g xs
flat_alike f g [] same = refl
flat_alike f g (x ∷ xs) same = ap₂ (λ ys zs. ys ++ zs) (same x) (flat_alike f g xs same)

flat_on : {B : Type 0} (f g : ℕ → List B) (ts xs : List ℕ) → ((t : ℕ) → is_one_of ts t ≡ true → f t ≡ g t) → ((t : ℕ) → is_one_of xs t ≡ true → is_one_of ts t ≡ true)
    → flat_map f xs ≡ flat_map g xs
flat_on f g ts [] same within = refl
flat_on f g ts (x ∷ xs) same within =
    let here : eqb x x ≡ true = eq-eqb x x refl in
    ap₂ (λ ys zs. ys ++ zs) (same x (within x (rw here refl)))
    (flat_on f g ts xs same (λ t h. within t (or_right (eqb x t) (is_one_of xs t) h)))
  where
    or_right : (a b : Bool) → b ≡ true → (a || b) ≡ true
    or_right true b e = refl
    or_right false b e = e

own_thread : (ts : List ℕ) (t : ℕ) → is_one_of ts t ≡ true → (emails : List Email)
    → filter (λ (e : Email). eqb e.thread t) (emails_of ts emails) ≡ filter (λ (e : Email). eqb e.thread t) emails
own_thread ts t one emails =
    filter_within (λ (e : Email). eqb e.thread t) (λ (e : Email). is_one_of ts e.thread)
    (λ e of. subst (λ k. is_one_of ts k ≡ true) (sym (eqb-true e.thread t of)) one) emails

-- the edits of threads by the groups of sorted members
threads_found : (after : Content) (ts : List ℕ) (members : List Member) → members ≡ sorted_once member_cmp (thread_members (emails_of ts after.emails))
    → flat_map (listed_edits after members) ts ≡ flat_map (thread_edits after) ts
threads_found after ts members is =
    ap (λ ms. flat_map (listed_edits after ms) ts) is
    ∙ flat_on (listed_edits after (sorted_once member_cmp (thread_members (emails_of ts after.emails)))) (thread_edits after) ts ts
    (λ t one. ap (λ ns. edits_of_thread t ns (thread_at after t)) (group-list t after.emails (emails_of ts after.emails) (own_thread ts t one after.emails)))
    (λ t h. h)

-- ---- counts

zero_tallied : (t : Tallied) (emails : List Email) (n : ℕ) → tallied_counts t n ≡ counts_over emails n → is_one_of (map member_group t.total_emails) n ≡ false
    → tallied_counts t n ≡ zero_counts
zero_tallied t emails n is away =
    is
    ∙ empty_counts emails n (sym (ap (λ (x : MailboxCounts). x.total_emails) is) ∙ ap length (empty_group n t.total_emails away))

pub mailboxes_found : (after : Content) (inside_before inside_after : List Email) (were are : Tallied) (numbers : List ℕ)
    → ((n : ℕ) → tallied_counts were n ≡ counts_over inside_before n) → ((n : ℕ) → tallied_counts are n ≡ counts_over inside_after n)
    → numbers ≡ rising (map member_group were.total_emails ++ map member_group are.total_emails) → IsTable mailbox_number after.mailboxes
    → all_listed mailbox_number (counted_edits were are) after.mailboxes numbers ≡ flat_map (count_edits inside_before inside_after) after.mailboxes
mailboxes_found after inside_before inside_after were are numbers one other is table =
    let all = map member_group were.total_emails ++ map member_group are.total_emails in
    covers mailbox_number (counted_edits were are) after.mailboxes numbers table
    (table_of_numbers numbers (subst NumbersRise (sym is) (rise-rising all)))
    (λ m there away.
    let none = neither m.number (map member_group were.total_emails) (map member_group are.total_emails)
    (sym (is_one_of-rising all m.number) ∙ (ap (λ ns. is_one_of ns m.number) (sym is) ∙ away)) in
    none_counted m (tallied_counts are m.number) (tallied_counts were m.number)
    (zero_tallied are inside_after m.number (other m.number) none.1) (zero_tallied were inside_before m.number (one m.number) none.0))
    ∙ flat_alike (counted_edits were are) (count_edits inside_before inside_after) after.mailboxes
    (λ m. ap₂ (λ a t. put_counts (counts_after (own_counts m) a t) m) (other m.number) (one m.number))

-- ---- from what each step finds

-- the emails that are found before the edits, and after them
pub among_before : (c : Content) (edits : List Edit) (old : Content) (ts numbers : List ℕ) (inside : List Email)
    → NumbersRise numbers → HasAll ts c.emails numbers → old ≡ c → AreTables old → inside ≡ emails_among ts old.emails numbers
    → inside ≡ emails_of ts c.emails
among_before c edits old ts numbers inside rise there is tables found =
    found
    ∙ (among_is ts numbers old.emails tables.emails rise (subst (λ (x : Content). HasAll ts x.emails numbers) (sym is) there)
    ∙ ap (λ (x : Content). emails_of ts x.emails) is)

pub among_after : (c : Content) (edits : List Edit) (new : Content) (ts numbers : List ℕ) (inside : List Email)
    → NumbersRise numbers → ((n : ℕ) → is_one_of (emails_named edits) n ≡ true → is_one_of numbers n ≡ true) → HasAll ts c.emails numbers
    → new ≡ after_edits c edits → AreTables new → inside ≡ emails_among ts new.emails numbers
    → inside ≡ emails_of ts new.emails
among_after c edits new ts numbers inside rise named there is tables found =
    found
    ∙ among_is ts numbers new.emails tables.emails rise
    (subst (λ (x : Content). HasAll ts x.emails numbers) (sym is) (has_all_after c edits ts numbers named there))

-- they are in number order
pub emails_of_table : (ts : List ℕ) (rows inside : List Email) → inside ≡ emails_of ts rows → IsTable email_number rows → IsTable email_number inside
emails_of_table ts rows inside is table = subst (IsTable email_number) (sym is) (table_kept (λ (e : Email). is_one_of ts e.thread) rows table)

-- the edits of the threads, and then those of the mailboxes
pub all_found : (c : Content) (edits : List Edit) (new : Content) (ts : List ℕ) (were are : List Email) (first all : List Edit)
    → ts ≡ touched_threads edits → new ≡ after_edits c edits → were ≡ emails_of ts c.emails → are ≡ emails_of ts new.emails
    → first ≡ flat_map (listed_edits new (sorted_once member_cmp (thread_members are))) ts
    → all ≡ first ++ flat_map (count_edits were are) new.mailboxes
    → all ≡ derived_edits c edits
all_found c edits new ts were are first all touched is one other listed counted =
    counted
    ∙ (ap₂ (λ xs ys. xs ++ ys)
    (listed ∙ threads_found new ts (sorted_once member_cmp (thread_members are)) (ap (λ es. sorted_once member_cmp (thread_members es)) other))
    (ap₂ (λ xs ys. flat_map (count_edits xs ys) new.mailboxes) one other)
    ∙ ap₂ (λ x zs. derived_from c x zs) is touched)

-- a table that is lent
pub table_at : {R : Type 0} (number : R → ℕ) (rows lent : List R) → lent ≡ rows → IsTable number lent → IsTable number rows
table_at number rows lent is table = subst (IsTable number) is table

-- the emails that are found are a table
pub found_before : (c : Content) (edits : List Edit) (old : Content) (ts numbers : List ℕ) (inside : List Email)
    → NumbersRise numbers → HasAll ts c.emails numbers → old ≡ c → AreTables old → inside ≡ emails_among ts old.emails numbers
    → IsTable email_number inside
found_before c edits old ts numbers inside rise there is tables found =
    emails_of_table ts c.emails inside (among_before c edits old ts numbers inside rise there is tables found)
    (subst (λ (x : Content). IsTable email_number x.emails) is tables.emails)

pub found_now : (c : Content) (edits : List Edit) (new : Content) (ts numbers : List ℕ) (inside : List Email)
    → NumbersRise numbers → ((n : ℕ) → is_one_of (emails_named edits) n ≡ true → is_one_of numbers n ≡ true) → HasAll ts c.emails numbers
    → new ≡ after_edits c edits → AreTables new → inside ≡ emails_among ts new.emails numbers
    → IsTable email_number inside
found_now c edits new ts numbers inside rise named there is tables found =
    emails_of_table ts new.emails inside (among_after c edits new ts numbers inside rise named there is tables found) tables.emails
