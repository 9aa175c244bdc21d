-- A tidy content is tidy again with what follows from edits.
use Rattle.std.proofs.Common.{◌≡◌, ℕ, ◌+◌, ◌^◌, ◌<◌, ◌≤◌, zero, suc, Bool, true, false, not, cond, eqb, List, [], ◌∷◌, ◌++◌, map, filter, length, Option, Some, None, is_some, refl, sym, ap, ◌∙◌, subst, arith, ⊎_elim, eqb-true, eq-eqb, IsPermutation}
use Rattle.std.specs.Prelude.{option_and_then}
use Rattle.std.specs.List.{AllByRecursion, IsDistinct, flat_map, list_any}
use Rattle.std.proofs.lemmas.Bool.{cases_Bool, true≢false}
use Rattle.std.proofs.lemmas.List.{length-map}
use Rattle.mail_records.specs.Tables.{IsTable, lookup}
use Rattle.mail_records.specs.Contents.{Content, AreTables, AreNumbered, mailbox_at, mailbox_number, email_number, thread_at, thread_number}
use Rattle.mail_records.specs.Edits.{after_edit, after_edits, AllFit}
use Rattle.mail_records.specs.declared.records.Mailbox.{Mailbox}
use Rattle.mail_records.specs.declared.records.Email.{Email}
use Rattle.mail_records.specs.declared.records.Thread.{Thread}
use Rattle.mail_records.specs.declared.edits.Edit.{Edit}
use Rattle.mail_records.specs.declared.edits.Edit.TheVariants.{PutMailbox, DropMailbox, PutEmail, DropEmail, PutThread, DropThread}
use Rattle.mail_records.proofs.Growth.{found, all_map, after_edits-append, AllFit-append, AreTables-after_edits, AreNumbered-after_edits}
use Rattle.mail_records.proofs.Tables.{All-put, All-kept}
use Rattle.mail_counts.specs.Counts.{HasCounts, each_once, email_thread, emails_in, is_in, is_unread, is_unread_thread, threads_in}
use Rattle.mail_counts.specs.Derived.{AllKeepCounts}
use Rattle.mail_counts.specs.DerivedEdits.{counts_between, counts_over, derived_edits, thread_edits}
use Rattle.mail_counts.specs.Tidy.{AreEmailsTidy, AreMailboxesTidy, AreThreadsTidy, HasRoot, IsListOf, IsPlaced, IsThere, IsTidy, IsTidyEmail, IsWellFormed, ancestor, parent_of, share_name, share_role}
use Rattle.mail_counts.specs.TidyBut.{AreInTurn, AreMailboxesTidyButCounts, DerivedEditsMakeTidy, IsPlacedBelow, LeaveTidyButThreadsAndCounts, LeavesThreads}
use Rattle.mail_counts.specs.Touched.{emails_of, in_order, is_one_of, list_of_thread, threads_named, touched_threads}
use Rattle.mail_counts.specs.declared.mailbox_counts.MailboxCounts.{MailboxCounts}
use Rattle.mail_counts.specs.declared.limits.TheConstants.{MAX_EMAILS_PER_ACCOUNT}
use Rattle.mail_counts.proofs.Covers.{table_of_numbers}
use Rattle.mail_counts.proofs.Followed.{IsRecounted, IsThreaded, all_recounted, mailbox_with, puts_of, thread_now, threaded}
use Rattle.mail_counts.proofs.Groups.{filter_within, table_kept}
use Rattle.mail_counts.proofs.Growth.{HasCounts-none, emails_in-above, mailboxes-below}
use Rattle.mail_counts.proofs.Kept.{same_counts, there}
use Rattle.mail_counts.proofs.Listed.{in_order_moves, in_order_rises, list_some}
use Rattle.mail_counts.proofs.Partition.{all_found, all_touched, count_is, others_stay, outside, part, rest, split_total_emails, split_total_threads, split_unread_emails, split_unread_threads}
use Rattle.mail_counts.proofs.Sorted.{rise-rising}

-- ---- what the edits leave as it was

-- edits that leave threads leave them all, and their next number
threads_stay : (es : List Edit) (c : Content) → AllByRecursion LeavesThreads es → (after_edits c es).threads ≡ c.threads
threads_stay [] c leave = refl
threads_stay (PutMailbox item was counts ∷ es) c leave = threads_stay es (after_edit c (PutMailbox item was counts)) leave.1
threads_stay (DropMailbox number ∷ es) c leave = threads_stay es (after_edit c (DropMailbox number)) leave.1
threads_stay (PutEmail item was ∷ es) c leave = threads_stay es (after_edit c (PutEmail item was)) leave.1
threads_stay (DropEmail number thread ∷ es) c leave = threads_stay es (after_edit c (DropEmail number thread)) leave.1
threads_stay (PutThread item was ∷ es) c leave = absurd (true≢false leave.0)
threads_stay (DropThread number ∷ es) c leave = absurd (true≢false leave.0)

next_stays : (es : List Edit) (c : Content) → AllByRecursion LeavesThreads es → (after_edits c es).next_thread ≡ c.next_thread
next_stays [] c leave = refl
next_stays (PutMailbox item was counts ∷ es) c leave = next_stays es (after_edit c (PutMailbox item was counts)) leave.1
next_stays (DropMailbox number ∷ es) c leave = next_stays es (after_edit c (DropMailbox number)) leave.1
next_stays (PutEmail item was ∷ es) c leave = next_stays es (after_edit c (PutEmail item was)) leave.1
next_stays (DropEmail number thread ∷ es) c leave = next_stays es (after_edit c (DropEmail number thread)) leave.1
next_stays (PutThread item was ∷ es) c leave = absurd (true≢false leave.0)
next_stays (DropThread number ∷ es) c leave = absurd (true≢false leave.0)

-- the mailboxes that these emails name are below a number
abbrev AreBelow : List Email → ℕ → Type 0
AreBelow emails n = AllByRecursion (λ (e : Email). AllByRecursion (λ x. x < n) e.mailboxes) emails

below_more : (emails : List Email) (m n : ℕ) → m ≤ n → AreBelow emails m → AreBelow emails n
below_more emails m n le below =
    all_map (λ (e : Email). AllByRecursion (λ x. x < m) e.mailboxes) (λ (e : Email). AllByRecursion (λ x. x < n) e.mailboxes) emails
    (λ (e : Email) (low : AllByRecursion (λ x. x < m) e.mailboxes). all_map (λ x. x < m) (λ x. x < n) e.mailboxes (λ (x : ℕ) (lt : x < m). omega arith) low) below

-- edits that keep counts leave each mailbox with its counts over the emails that were there
counted : (emails : List Email) (es : List Edit) (c : Content) → AllFit c es → AllKeepCounts c es → AreBelow emails c.next_mailbox
    → AllByRecursion (HasCounts emails) c.mailboxes → AllByRecursion (HasCounts emails) (after_edits c es).mailboxes
counted emails [] c fit keep below all = all
counted emails (PutMailbox item true flag ∷ es) c fit keep below all =
    let old = there (mailbox_at c item.number) (sym fit.0.0) in
    let was = found (HasCounts emails) mailbox_number item.number old.0 c.mailboxes all old.1 in
    counted emails es (after_edit c (PutMailbox item true flag)) fit.1 keep.1 below
    (All-put (HasCounts emails) mailbox_number item (same_counts emails old.0 item was.1 (keep.0.1 old.0 old.1) was.0) c.mailboxes all)
counted emails (PutMailbox item false flag ∷ es) c fit keep below all =
    let is : item.number ≡ c.next_mailbox = fit.0.1 refl in
    let none : emails_in item.number emails ≡ [] = subst (λ n. emails_in n emails ≡ []) (sym is) (emails_in-above c.next_mailbox emails below) in
    counted emails es (after_edit c (PutMailbox item false flag)) fit.1 keep.1 (below_more emails c.next_mailbox (item.number + 1) (omega arith) below)
    (All-put (HasCounts emails) mailbox_number item (HasCounts-none emails item none (keep.0.0 refl)) c.mailboxes all)
counted emails (DropMailbox number ∷ es) c fit keep below all =
    counted emails es (after_edit c (DropMailbox number)) fit.1 keep.1 below (All-kept (HasCounts emails) (λ (x : Mailbox). not (eqb x.number number)) c.mailboxes all)
counted emails (PutEmail item was ∷ es) c fit keep below all = counted emails es (after_edit c (PutEmail item was)) fit.1 keep.1 below all
counted emails (DropEmail number thread ∷ es) c fit keep below all = counted emails es (after_edit c (DropEmail number thread)) fit.1 keep.1 below all
counted emails (PutThread item was ∷ es) c fit keep below all = counted emails es (after_edit c (PutThread item was)) fit.1 keep.1 below all
counted emails (DropThread number ∷ es) c fit keep below all = counted emails es (after_edit c (DropThread number)) fit.1 keep.1 below all

-- ---- counts are small

filter_le : {A : Type 0} (p : A → Bool) (xs : List A) → length (filter p xs) ≤ length xs
filter_le p [] = omega arith
filter_le p (x ∷ xs) = let le = filter_le p xs in
    ⊎_elim
    (λ (t : p x ≡ true). rw t (omega (arith, le)))
    (λ (t : p x ≡ false). rw t (omega (arith, le)))
    (cases_Bool (p x))

once_le : (xs : List ℕ) → length (each_once xs) ≤ length xs
once_le [] = omega arith
once_le (x ∷ xs) = let le = once_le xs in
    ⊎_elim
    (λ (t : list_any (λ y. eqb y x) xs ≡ true). rw t (omega (arith, le)))
    (λ (t : list_any (λ y. eqb y x) xs ≡ false). rw t (omega (arith, le)))
    (cases_Bool (list_any (λ y. eqb y x) xs))

record AreSmall (counts : MailboxCounts) : Type 0 where
  total_emails : counts.total_emails < 2 ^ 64
  unread_emails : counts.unread_emails < 2 ^ 64
  total_threads : counts.total_threads < 2 ^ 64
  unread_threads : counts.unread_threads < 2 ^ 64

small_from : (a b n : ℕ) → a ≤ b → b ≤ n → n ≤ MAX_EMAILS_PER_ACCOUNT → a < 2 ^ 64
small_from a b n one other few = omega arith

small_counts : (emails : List Email) (n : ℕ) → length emails ≤ MAX_EMAILS_PER_ACCOUNT → AreSmall (counts_over emails n)
small_counts emails n few =
    let in_it : length (emails_in n emails) ≤ length emails = filter_le (is_in n) emails in
    let threads : length (threads_in n emails) ≤ length (emails_in n emails) =
    subst (λ k. length (threads_in n emails) ≤ k) (length-map (emails_in n emails) email_thread) (once_le (map email_thread (emails_in n emails))) in
    let some : length (threads_in n emails) ≤ length emails = omega arith in record {
      total_emails = small_from (length (emails_in n emails)) (length emails) (length emails) in_it (omega arith) few;
      unread_emails = small_from (length (filter is_unread (emails_in n emails))) (length (emails_in n emails)) (length emails) (filter_le is_unread (emails_in n emails)) in_it few;
      total_threads = small_from (length (threads_in n emails)) (length emails) (length emails) some (omega arith) few;
      unread_threads = small_from (length (filter (is_unread_thread emails) (threads_in n emails))) (length (threads_in n emails)) (length emails)
          (filter_le (is_unread_thread emails) (threads_in n emails)) some few;
    }

-- ---- the counts by difference are those over all emails

right_counts : (before after : List Email) (ts : List ℕ) (m : Mailbox) → filter (outside ts) after ≡ filter (outside ts) before → length after ≤ MAX_EMAILS_PER_ACCOUNT
    → HasCounts before m → HasCounts after (mailbox_with (counts_between (emails_of ts before) (emails_of ts after)) m)
right_counts before after ts m stay few has =
    let q = is_one_of ts in
    let n = m.number in
    let small = small_counts after n few in
    let others = part (rest q) before in
    let taken = counts_over (part q before) n in
    let added = counts_over (part q after) n in
    let other = counts_over others n in
    let now = counts_over after n in record {
      total_emails =
          count_is m.total_emails taken.total_emails added.total_emails other.total_emails now.total_emails (has.total_emails ∙ split_total_emails q n before)
          (split_total_emails q n after ∙ ap (λ (es : List Email). added.total_emails + (counts_over es n).total_emails) stay) small.total_emails;
      unread_emails =
          count_is m.unread_emails taken.unread_emails added.unread_emails other.unread_emails now.unread_emails (has.unread_emails ∙ split_unread_emails q n before)
          (split_unread_emails q n after ∙ ap (λ (es : List Email). added.unread_emails + (counts_over es n).unread_emails) stay) small.unread_emails;
      total_threads =
          count_is m.total_threads taken.total_threads added.total_threads other.total_threads now.total_threads (has.total_threads ∙ split_total_threads q n before)
          (split_total_threads q n after ∙ ap (λ (es : List Email). added.total_threads + (counts_over es n).total_threads) stay) small.total_threads;
      unread_threads =
          count_is m.unread_threads taken.unread_threads added.unread_threads other.unread_threads now.unread_threads (has.unread_threads ∙ split_unread_threads q n before)
          (split_unread_threads q n after ∙ ap (λ (es : List Email). added.unread_threads + (counts_over es n).unread_threads) stay) small.unread_threads;
    }

-- ---- mailboxes with other counts

module _ (counts : Mailbox → MailboxCounts) where
  there_again : (n : ℕ) (ms : List Mailbox) → is_some (lookup mailbox_number n (map (mailbox_with counts) ms)) ≡ is_some (lookup mailbox_number n ms)
  there_again n [] = refl
  there_again n (m ∷ ms) =
      ⊎_elim
      (λ (t : eqb m.number n ≡ true). rw t refl)
      (λ (t : eqb m.number n ≡ false). rw t (there_again n ms))
      (cases_Bool (eqb m.number n))

  parent_again : (n : ℕ) (ms : List Mailbox) → option_and_then (λ (m : Mailbox). m.parent) (lookup mailbox_number n (map (mailbox_with counts) ms))
      ≡ option_and_then (λ (m : Mailbox). m.parent) (lookup mailbox_number n ms)
  parent_again n [] = refl
  parent_again n (m ∷ ms) =
      ⊎_elim
      (λ (t : eqb m.number n ≡ true). rw t refl)
      (λ (t : eqb m.number n ≡ false). rw t (parent_again n ms))
      (cases_Bool (eqb m.number n))

  module _ (c d : Content) (is : d.mailboxes ≡ map (mailbox_with counts) c.mailboxes) where
    IsThere-again : (n : ℕ) → IsThere c n → IsThere d n
    IsThere-again n h = ap (λ ms. is_some (lookup mailbox_number n ms)) is ∙ (there_again n c.mailboxes ∙ h)

    parent_of-again : (n : ℕ) → parent_of d n ≡ parent_of c n
    parent_of-again n = ap (λ ms. option_and_then (λ (m : Mailbox). m.parent) (lookup mailbox_number n ms)) is ∙ parent_again n c.mailboxes

    ancestor-again : (k : ℕ) (start : Option ℕ) → ancestor k d start ≡ ancestor k c start
    ancestor-again zero start = refl
    ancestor-again (suc k) None = refl
    ancestor-again (suc k) (Some n) = ap (ancestor k d) (parent_of-again n) ∙ ancestor-again k (parent_of c n)

    root-again : (start : Option ℕ) → HasRoot c start → HasRoot d start
    root-again start h =
        let many : length d.mailboxes ≡ length c.mailboxes = ap length is ∙ length-map c.mailboxes (mailbox_with counts) in
        ap (λ k. ancestor k d start) many ∙ (ancestor-again (length c.mailboxes) start ∙ h)

    forms-again : (ms : List Mailbox) → AllByRecursion IsWellFormed ms → AllByRecursion IsWellFormed (map (mailbox_with counts) ms)
    forms-again [] all = tt
    forms-again (m ∷ ms) all = (record { name = all.0.name; role = all.0.role; sort_order = all.0.sort_order }, forms-again ms all.1)

    placed-again : (ms : List Mailbox) → AllByRecursion (IsPlacedBelow c) ms → AllByRecursion (λ (m : Mailbox). HasCounts d.emails (mailbox_with counts m)) ms
        → AllByRecursion (IsPlaced d) (map (mailbox_with counts) ms)
    placed-again [] all counted = tt
    placed-again (m ∷ ms) all counted = (
      record {
        parent = λ p e. IsThere-again p (all.0.parent p e);
        root = root-again m.parent all.0.root;
        counts = counted.0;
      },
      placed-again ms all.1 counted.1,
    )

    name_free : (m : Mailbox) (ms : List Mailbox) → AllByRecursion (λ x. share_name m x ≡ false) ms → AllByRecursion (λ x. share_name (mailbox_with counts m) x ≡ false) (map (mailbox_with counts) ms)
    name_free m [] all = tt
    name_free m (x ∷ xs) all = (all.0, name_free m xs all.1)

    role_free : (m : Mailbox) (ms : List Mailbox) → AllByRecursion (λ x. share_role m x ≡ false) ms → AllByRecursion (λ x. share_role (mailbox_with counts m) x ≡ false) (map (mailbox_with counts) ms)
    role_free m [] all = tt
    role_free m (x ∷ xs) all = (all.0, role_free m xs all.1)

    names-again : (ms : List Mailbox) → IsDistinct share_name ms → IsDistinct share_name (map (mailbox_with counts) ms)
    unfolding IsDistinct
    names-again [] all = tt
    names-again (m ∷ ms) all = (name_free m ms all.0, names-again ms all.1)

    roles-again : (ms : List Mailbox) → IsDistinct share_role ms → IsDistinct share_role (map (mailbox_with counts) ms)
    unfolding IsDistinct
    roles-again [] all = tt
    roles-again (m ∷ ms) all = (role_free m ms all.0, roles-again ms all.1)

    mailboxes-again : AreMailboxesTidyButCounts c → AllByRecursion (λ (m : Mailbox). HasCounts d.emails (mailbox_with counts m)) c.mailboxes → AreMailboxesTidy d
    mailboxes-again tidy counted = record {
      forms = subst (AllByRecursion IsWellFormed) (sym is) (forms-again c.mailboxes tidy.forms);
      placed = subst (AllByRecursion (IsPlaced d)) (sym is) (placed-again c.mailboxes tidy.placed counted);
      names = subst (IsDistinct share_name) (sym is) (names-again c.mailboxes tidy.names);
      roles = subst (IsDistinct share_role) (sym is) (roles-again c.mailboxes tidy.roles);
    }

    email-again : (e : Email) → IsTidyEmail c e → IsTidyEmail d e
    email-again e tidy = record {
      mailboxes = all_map (IsThere c) (IsThere d) e.mailboxes (λ (n : ℕ) (h : IsThere c n). IsThere-again n h) tidy.mailboxes;
      some_mailbox = tidy.some_mailbox;
      few_mailboxes = tidy.few_mailboxes;
      mailboxes_rise = tidy.mailboxes_rise;
      keywords = tidy.keywords;
      few_keywords = tidy.few_keywords;
      keywords_rise = tidy.keywords_rise;
      received = tidy.received;
      sent = tidy.sent;
    }

    emails-again : d.emails ≡ c.emails → AreEmailsTidy c → AreEmailsTidy d
    emails-again same tidy = record {
      few = subst (λ (es : List Email). length es ≤ MAX_EMAILS_PER_ACCOUNT) (sym same) tidy.few;
      each = subst (AllByRecursion (IsTidyEmail d)) (sym same) (all_map (IsTidyEmail c) (IsTidyEmail d) c.emails (λ (e : Email) (t : IsTidyEmail c e). email-again e t) tidy.each);
    }

-- ---- threads

all_parts : {A : Type 0} (p : A → Bool) (P : A → Type 0) (xs : List A) → AllByRecursion P (filter p xs) → AllByRecursion (λ x. p x ≡ false → P x) xs → AllByRecursion P xs
all_parts p P [] passed failed = tt
all_parts p P (x ∷ xs) passed failed =
    ⊎_elim
    (λ (t : p x ≡ true).
    let both : AllByRecursion P (x ∷ filter p xs) = subst (λ b. AllByRecursion P (cond b (x ∷ filter p xs) (filter p xs))) t passed in
    (both.0, all_parts p P xs both.1 failed.1))
    (λ (t : p x ≡ false).
    let rest : AllByRecursion P (filter p xs) = subst (λ b. AllByRecursion P (cond b (x ∷ filter p xs) (filter p xs))) t passed in
    (failed.0 t, all_parts p P xs rest failed.1))
    (cases_Bool (p x))

now_there : (t : ℕ) (listed : List ℕ) → 1 ≤ length listed → is_some (thread_now t listed) ≡ true
now_there t [] le = absurd (omega arith)
now_there t (n ∷ ns) le = refl

-- the record that lists emails
record IsNow (t : Thread) (n : ℕ) (listed : List ℕ) : Type 0 where
  number : t.number ≡ n
  emails : t.emails ≡ listed
  some : 1 ≤ length listed

is_now : (t : Thread) (n : ℕ) (listed : List ℕ) → Some t ≡ thread_now n listed → IsNow t n listed
is_now t n [] e = absurd (cc)
is_now t n (k ∷ ks) e =
    let new : Thread = record { number = n; emails = k ∷ ks } in
    let same : t ≡ new = some_same t new e in
    record { number = ap (λ (x : Thread). x.number) same; emails = ap (λ (x : Thread). x.emails) same; some = omega arith }
  where
    some_same : (a b : Thread) → Some a ≡ Some b → a ≡ b
    some_same a b e = cc

not_false : (b : Bool) → not b ≡ false → b ≡ true
not_false true e = refl
not_false false e = absurd (true≢false e)

false_not : (b : Bool) → b ≡ false → not b ≡ true
false_not true e = absurd (true≢false e)
false_not false e = refl

-- a thread that isn't one of some has its emails outside of them
of_others : (ts : List ℕ) (n : ℕ) → is_one_of ts n ≡ false → (e : Email) → eqb e.thread n ≡ true → outside ts e ≡ true
of_others ts n away e of = subst (λ k. not (is_one_of ts k) ≡ true) (sym (eqb-true e.thread n of)) (false_not (is_one_of ts n) away)

-- the emails of such a thread are as they were
same_emails : (ts : List ℕ) (before after : List Email) (n : ℕ) → is_one_of ts n ≡ false → filter (outside ts) after ≡ filter (outside ts) before
    → filter (λ (e : Email). eqb e.thread n) before ≡ filter (λ (e : Email). eqb e.thread n) after
same_emails ts before after n away stay =
    let own : Email → Bool = λ e. eqb e.thread n in
    sym (filter_within own (outside ts) (λ e of. of_others ts n away e of) before)
    ∙ (ap (filter own) (sym stay) ∙ filter_within own (outside ts) (λ e of. of_others ts n away e of) after)

-- a thread lists its emails
abbrev Lists : List Email → Thread → Type 0
Lists emails t = (listed : List Email) × IsListOf emails t listed

lists_now : (emails : List Email) (t : Thread) → IsTable email_number emails → t.emails ≡ list_of_thread emails t.number → 1 ≤ length (list_of_thread emails t.number) → Lists emails t
lists_now emails t table is some =
    let own : List Email = filter (λ (e : Email). eqb e.thread t.number) emails in
    let same : length (list_of_thread emails t.number) ≡ length (in_order own) = length-map (in_order own) email_number in (
      in_order own,
      record {
        numbers = is;
        all = in_order_moves own (table_kept (λ (e : Email). eqb e.thread t.number) emails table);
        order = in_order_rises own;
        some = omega arith;
      },
    )

lists_still : (before after : List Email) (t : Thread)
    → filter (λ (e : Email). eqb e.thread t.number) before ≡ filter (λ (e : Email). eqb e.thread t.number) after → Lists before t → Lists after t
lists_still before after t same lists = (
  lists.0,
  record {
    numbers = lists.1.numbers;
    all = subst (λ es. IsPermutation es lists.0) same lists.1.all;
    order = lists.1.order;
    some = lists.1.some;
  },
)

-- the threads of a content are tidy again where those that were touched list their emails, and the others are as they were
threads-again : (c d : Content) (ts : List ℕ) → AreThreadsTidy c → IsTable thread_number d.threads → IsTable email_number d.emails
    → filter (outside ts) d.emails ≡ filter (outside ts) c.emails
    → ((n : ℕ) → is_one_of ts n ≡ true → thread_at d n ≡ thread_now n (list_of_thread d.emails n))
    → ((n : ℕ) → is_one_of ts n ≡ false → thread_at d n ≡ thread_at c n) → AreThreadsTidy d
threads-again c d ts tidy table emails stay here others = record { named = named; lists = lists }
  where
    IsNamed : Email → Type 0
    IsNamed e = is_some (thread_at d e.thread) ≡ true

    outside_named : (xs : List Email) → AllByRecursion (λ (e : Email). is_some (thread_at c e.thread) ≡ true) xs
        → AllByRecursion (λ (e : Email). outside ts e ≡ true → IsNamed e) xs
    outside_named [] all = tt
    outside_named (x ∷ xs) all = (
      (λ out. ap is_some (others x.thread (not_true (is_one_of ts x.thread) out)) ∙ all.0),
      outside_named xs all.1,
    )
      where
        not_true : (b : Bool) → not b ≡ true → b ≡ false
        not_true true e = absurd (true≢false (sym e))
        not_true false e = refl

    passed : (xs : List Email) → AllByRecursion (λ (e : Email). outside ts e ≡ true → IsNamed e) xs → AllByRecursion IsNamed (filter (outside ts) xs)
    passed [] all = tt
    passed (x ∷ xs) all =
        ⊎_elim
        (λ (t : outside ts x ≡ true). rw t (all.0 t, passed xs all.1))
        (λ (t : outside ts x ≡ false). rw t (passed xs all.1))
        (cases_Bool (outside ts x))

    named : AllByRecursion IsNamed d.emails
    named =
        all_parts (outside ts) IsNamed d.emails
        (subst (AllByRecursion IsNamed) (sym stay) (passed c.emails (outside_named c.emails tidy.named)))
        (all_found email_number (λ (e : Email). outside ts e ≡ false → IsNamed e) d.emails emails
        (λ x at inside.
        ap is_some (here x.thread (not_false (is_one_of ts x.thread) inside))
        ∙ now_there x.thread (list_of_thread d.emails x.thread) (list_some d.emails x.thread x at (eq-eqb x.thread x.thread refl))))

    lists : AllByRecursion (Lists d.emails) d.threads
    lists =
        all_found thread_number (Lists d.emails) d.threads table
        (λ t at.
        ⊎_elim
        (λ (s : is_one_of ts t.number ≡ true).
        let now = is_now t t.number (list_of_thread d.emails t.number) (sym at ∙ here t.number s) in
        lists_now d.emails t emails now.emails now.some)
        (λ (s : is_one_of ts t.number ≡ false).
        lists_still c.emails d.emails t (same_emails ts c.emails d.emails t.number s stay)
        (found (Lists c.emails) thread_number t.number t c.threads tidy.lists (sym (others t.number s) ∙ at)).0)
        (cases_Bool (is_one_of ts t.number)))

-- ---- the whole content

same_at : (after : Content) (ts : List ℕ) → AllByRecursion (λ t. thread_at after t ≡ thread_at after t) ts
same_at after [] = tt
same_at after (t ∷ ts) = (refl, same_at after ts)

counts_right : (c d : Content) (ts : List ℕ) (ms : List Mailbox) → filter (outside ts) d.emails ≡ filter (outside ts) c.emails → length d.emails ≤ MAX_EMAILS_PER_ACCOUNT
    → AllByRecursion (HasCounts c.emails) ms → AllByRecursion (λ (m : Mailbox). HasCounts d.emails (mailbox_with (counts_between (emails_of ts c.emails) (emails_of ts d.emails)) m)) ms
counts_right c d ts [] stay few all = tt
counts_right c d ts (m ∷ ms) stay few all = (right_counts c.emails d.emails ts m stay few all.0, counts_right c d ts ms stay few all.1)

-- With what follows from them, edits that leave a content tidy but for threads and counts fit it and leave it tidy.
pub made_tidy : (c : Content) (edits : List Edit) → IsTidy c → LeaveTidyButThreadsAndCounts c edits → DerivedEditsMakeTidy c edits
made_tidy c edits tidy leave = (all_fit, subst IsTidy (sym (is_end ∙ is_last)) last_tidy)
  where
    ts : List ℕ
    ts = touched_threads edits

    after : Content
    after = after_edits c edits

    were : List Email
    were = emails_of ts c.emails

    are : List Email
    are = emails_of ts after.emails

    counts : Mailbox → MailboxCounts
    counts = counts_between were are

    first : List Edit
    first = flat_map (thread_edits after) ts

    second : List Edit
    second = puts_of counts after.mailboxes

    stay : filter (outside ts) after.emails ≡ filter (outside ts) c.emails
    stay = others_stay ts edits c tidy.tables leave.fit leave.keep_threads (all_touched edits)

    same_threads : after.threads ≡ c.threads
    same_threads = threads_stay edits c leave.leave_threads

    turn : AreInTurn after.next_thread (filter (λ t. not (is_some (thread_at after t))) ts)
    turn =
        subst (λ k. AreInTurn k (filter (λ t. not (is_some (thread_at after t))) ts)) (sym (next_stays edits c leave.leave_threads))
        (subst (λ (rows : List Thread). AreInTurn c.next_thread (filter (λ t. not (is_some (lookup thread_number t rows))) ts)) (sym same_threads) leave.new_threads)

    threads : IsThreaded after after ts
    threads = threaded after ts after (table_of_numbers ts (rise-rising (threads_named edits))) (same_at after ts) turn

    middle : Content
    middle = after_edits after first

    mailboxes : IsRecounted counts middle [] after.mailboxes second
    mailboxes = all_recounted counts after.mailboxes middle threads.same.mailboxes leave.after.tables.mailboxes

    last : Content
    last = after_edits middle second

    all_fit : AllFit c (edits ++ derived_edits c edits)
    all_fit = AllFit-append edits (first ++ second) c leave.fit (AllFit-append first second after threads.fit mailboxes.fit)

    is_end : after_edits c (edits ++ derived_edits c edits) ≡ after_edits after (first ++ second)
    is_end = after_edits-append edits (first ++ second) c

    is_last : after_edits after (first ++ second) ≡ last
    is_last = after_edits-append first second after

    tables : AreTables last
    tables = subst AreTables (is_end ∙ is_last) (AreTables-after_edits (edits ++ derived_edits c edits) c tidy.tables)

    numbered : AreNumbered last
    numbered = subst AreNumbered (is_end ∙ is_last) (AreNumbered-after_edits (edits ++ derived_edits c edits) c all_fit tidy.numbered)

    emails_same : last.emails ≡ after.emails
    emails_same = mailboxes.after.emails ∙ threads.same.emails

    threads_same : last.threads ≡ middle.threads
    threads_same = mailboxes.after.threads

    has : AllByRecursion (HasCounts c.emails) after.mailboxes
    has =
        counted c.emails edits c leave.fit leave.keep_counts (mailboxes-below c tidy.numbered tidy.emails)
        (all_map (IsPlaced c) (HasCounts c.emails) c.mailboxes (λ (m : Mailbox) (p : IsPlaced c m). p.counts) tidy.mailboxes.placed)

    right : AllByRecursion (λ (m : Mailbox). HasCounts last.emails (mailbox_with counts m)) after.mailboxes
    right =
        subst (λ (es : List Email). AllByRecursion (λ (m : Mailbox). HasCounts es (mailbox_with counts m)) after.mailboxes) (sym emails_same)
        (counts_right c after ts after.mailboxes stay leave.after.emails.few has)

    here : (n : ℕ) → is_one_of ts n ≡ true → thread_at last n ≡ thread_now n (list_of_thread last.emails n)
    here n e =
        ap (λ (rows : List Thread). lookup thread_number n rows) threads_same
        ∙ (threads.here n e ∙ ap (λ (es : List Email). thread_now n (list_of_thread es n)) (sym emails_same))

    others : (n : ℕ) → is_one_of ts n ≡ false → thread_at last n ≡ thread_at c n
    others n e =
        ap (λ (rows : List Thread). lookup thread_number n rows) threads_same
        ∙ (threads.others n e ∙ ap (λ (rows : List Thread). lookup thread_number n rows) same_threads)

    last_tidy : IsTidy last
    last_tidy = record {
      tables = tables;
      numbered = numbered;
      mailboxes = mailboxes-again counts after last mailboxes.after.mailboxes leave.after.mailboxes right;
      emails = emails-again counts after last mailboxes.after.mailboxes emails_same leave.after.emails;
      threads = threads-again c last ts tidy.threads tables.threads tables.emails (ap (filter (outside ts)) emails_same ∙ stay) here others;
    }
