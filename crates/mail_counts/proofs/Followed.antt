-- What the derived edits make of a content: they fit one after the other, touched threads list their emails, and the counts of
-- mailboxes change.
use Rattle.std.proofs.Common.{◌≡◌, ℕ, ◌+◌, ◌<◌, ◌≤◌, Bool, true, false, ◌||◌, ◌&&◌, not, cond, eqb, ltb, List, [], ◌∷◌, ◌++◌, map, filter, Option, Some, None, is_some, refl, sym, ap, ap₂, ◌∙◌, subst, arith, ⊎_elim, eqb-true, eq-eqb, le-ltb, ne_eqb}
use Rattle.std.specs.List.{AllByRecursion, flat_map}
use Rattle.std.proofs.lemmas.Bool.{cases_Bool, true≢false}
use Rattle.mail_records.specs.Tables.{IsTable, lookup, put}
use Rattle.mail_records.specs.Contents.{Content, mailbox_at, mailbox_number, thread_at, thread_number}
use Rattle.mail_records.specs.Edits.{after_edit, after_edits, AllFit, IsSmall}
use Rattle.mail_records.specs.declared.records.Mailbox.{Mailbox}
use Rattle.mail_records.specs.declared.records.Email.{Email}
use Rattle.mail_records.specs.declared.records.Thread.{Thread}
use Rattle.mail_records.specs.declared.edits.Edit.{Edit}
use Rattle.mail_records.specs.declared.edits.Edit.TheVariants.{PutMailbox, PutThread}
use Rattle.mail_records.proofs.Tables.{lookup-put_same, lookup-put_other, lookup-without_other, lookup-without_same}
use Rattle.mail_records.proofs.Growth.{after_edits-append, AllFit-append}
use Rattle.mail_records.proofs.KeyTables.{lookup_number}
use Rattle.mail_counts.specs.declared.mailbox_counts.MailboxCounts.{MailboxCounts}
use Rattle.mail_counts.specs.CountsFlag.{AreCountsFlagsRight, ChangesOnlyCounts, IsCountsFlagRight, SameButCounts}
use Rattle.mail_counts.specs.Derived.{LeavesEmails}
use Rattle.mail_counts.specs.DerivedEdits.{are_equal_counts, count_edits, counts_after, counts_between, counts_over, derived_from, edits_of_thread, own_counts, put_counts, same_numbers, thread_edits, with_counts}
use Rattle.mail_counts.specs.TidyBut.{AreInTurn}
use Rattle.mail_counts.specs.Touched.{is_one_of, list_of_thread}

-- ---- none of them is of an email, and all are small

all_append : {A : Type 0} (P : A → Type 0) (xs ys : List A) → AllByRecursion P xs → AllByRecursion P ys → AllByRecursion P (xs ++ ys)
all_append P [] ys one other = other
all_append P (x ∷ xs) ys one other = (one.0, all_append P xs ys one.1 other)

all_flat : {A B : Type 0} (P : B → Type 0) (f : A → List B) → ((x : A) → AllByRecursion P (f x)) → (xs : List A) → AllByRecursion P (flat_map f xs)
all_flat P f each [] = tt
all_flat P f each (x ∷ xs) = all_append P (f x) (flat_map f xs) (each x) (all_flat P f each xs)

-- an edit as the derived ones are
record IsPlainEdit (e : Edit) : Type 0 where
  small : IsSmall e
  leaves : LeavesEmails e

plain_thread : (t : ℕ) (listed : List ℕ) (o : Option Thread) → AllByRecursion IsPlainEdit (edits_of_thread t listed o)
plain_thread t [] None = (record { small = tt; leaves = refl }, (record { small = tt; leaves = refl }, tt))
plain_thread t [] (Some old) = (record { small = tt; leaves = refl }, tt)
plain_thread t (n ∷ ns) None = (record { small = tt; leaves = refl }, tt)
plain_thread t (n ∷ ns) (Some old) = by (same_numbers old.emails (n ∷ ns))
  where
    by : (b : Bool) → AllByRecursion IsPlainEdit (cond b [] (PutThread (record { number = t; emails = n ∷ ns }) true ∷ []))
    by true = tt
    by false = (record { small = tt; leaves = refl }, tt)

plain_counts : (counts : MailboxCounts) (m : Mailbox) → AllByRecursion IsPlainEdit (put_counts counts m)
plain_counts counts m = by (are_equal_counts (own_counts m) counts)
  where
    by : (b : Bool) → AllByRecursion IsPlainEdit (cond b [] (PutMailbox (with_counts counts m) true true ∷ []))
    by true = tt
    by false = (record { small = tt; leaves = refl }, tt)

plain_derived : (before after : Content) (ts : List ℕ) → AllByRecursion IsPlainEdit (derived_from before after ts)
plain_derived before after ts =
    all_append IsPlainEdit (flat_map (thread_edits after) ts) (flat_map counted after.mailboxes)
    (all_flat IsPlainEdit (thread_edits after) (λ t. plain_thread t (list_of_thread after.emails t) (thread_at after t)) ts)
    (all_flat IsPlainEdit counted (λ m. plain_counts (counts_now m) m) after.mailboxes)
  where
    were : List Email
    were = filter (λ (e : Email). is_one_of ts e.thread) before.emails

    are : List Email
    are = filter (λ (e : Email). is_one_of ts e.thread) after.emails

    counted : Mailbox → List Edit
    counted = count_edits were are

    counts_now : Mailbox → MailboxCounts
    counts_now m = counts_after (own_counts m) (counts_over are m.number) (counts_over were m.number)

weaker : {A : Type 0} (P Q : A → Type 0) → ((x : A) → P x → Q x) → (xs : List A) → AllByRecursion P xs → AllByRecursion Q xs
weaker P Q f [] all = tt
weaker P Q f (x ∷ xs) all = (f x all.0, weaker P Q f xs all.1)

pub derived_small : (before after : Content) (ts : List ℕ) → AllByRecursion IsSmall (derived_from before after ts)
derived_small before after ts = weaker IsPlainEdit IsSmall (λ e p. p.small) (derived_from before after ts) (plain_derived before after ts)

pub derived_leaves : (before after : Content) (ts : List ℕ) → AllByRecursion LeavesEmails (derived_from before after ts)
derived_leaves before after ts = weaker IsPlainEdit LeavesEmails (λ e p. p.leaves) (derived_from before after ts) (plain_derived before after ts)

-- ---- threads

-- the record of a thread that lists these emails
abbrev pub thread_now : ℕ → List ℕ → Option Thread
thread_now t [] = None
thread_now t (n ∷ ns) = Some (record { number = t; emails = n ∷ ns })

-- the contents differ in threads alone
pub record SameButThreads (c d : Content) : Type 0 where
  pub mailboxes : d.mailboxes ≡ c.mailboxes
  pub emails : d.emails ≡ c.emails
  pub next_mailbox : d.next_mailbox ≡ c.next_mailbox
  pub next_email : d.next_email ≡ c.next_email

abbrev next_thread_after : Option Thread → ℕ → ℕ → ℕ
next_thread_after None t next = t + 1
next_thread_after (Some old) t next = next

-- what the edits of one thread do
record IsStep (c : Content) (t : ℕ) (listed : List ℕ) (o : Option Thread) (edits : List Edit) : Type 0 where
  fit : AllFit c edits
  same : SameButThreads c (after_edits c edits)
  here : thread_at (after_edits c edits) t ≡ thread_now t listed
  others : (n : ℕ) → eqb t n ≡ false → thread_at (after_edits c edits) n ≡ thread_at c n
  next : (after_edits c edits).next_thread ≡ next_thread_after o t c.next_thread

unchanged : (c : Content) → SameButThreads c c
unchanged c = record { mailboxes = refl; emails = refl; next_mailbox = refl; next_email = refl }

same_list : (xs ys : List ℕ) → same_numbers xs ys ≡ true → xs ≡ ys
same_list [] [] e = refl
same_list [] (y ∷ ys) e = absurd (true≢false (sym e))
same_list (x ∷ xs) [] e = absurd (true≢false (sym e))
same_list (x ∷ xs) (y ∷ ys) e =
    ⊎_elim
    (λ (t : eqb x y ≡ true). ap₂ (λ z zs. z ∷ zs) (eqb-true x y t) (same_list xs ys (subst (λ b. (b && same_numbers xs ys) ≡ true) t e)))
    (λ (t : eqb x y ≡ false). absurd (true≢false (sym (subst (λ b. (b && same_numbers xs ys) ≡ true) t e))))
    (cases_Bool (eqb x y))

thread_step : (c : Content) (t : ℕ) (listed : List ℕ) (o : Option Thread) → thread_at c t ≡ o → (o ≡ None → t ≡ c.next_thread) → IsStep c t listed o (edits_of_thread t listed o)
thread_step c t [] None at new =
    let item : Thread = record { number = t; emails = [] } in record {
      fit = ((sym (ap is_some at), λ no. new refl), (ap is_some (lookup-put_same thread_number item t refl c.threads), tt));
      same = record { mailboxes = refl; emails = refl; next_mailbox = refl; next_email = refl };
      here = lookup-without_same thread_number t (put thread_number item c.threads);
      others = λ n away. lookup-without_other thread_number t n away (put thread_number item c.threads) ∙ lookup-put_other thread_number item n away c.threads;
      next = refl;
    }
thread_step c t [] (Some old) at new = record {
  fit = (ap is_some at, tt);
  same = record { mailboxes = refl; emails = refl; next_mailbox = refl; next_email = refl };
  here = lookup-without_same thread_number t c.threads;
  others = λ n away. lookup-without_other thread_number t n away c.threads;
  next = refl;
}
thread_step c t (k ∷ ks) None at new =
    let item : Thread = record { number = t; emails = k ∷ ks } in record {
      fit = ((sym (ap is_some at), λ no. new refl), tt);
      same = record { mailboxes = refl; emails = refl; next_mailbox = refl; next_email = refl };
      here = lookup-put_same thread_number item t refl c.threads;
      others = λ n away. lookup-put_other thread_number item n away c.threads;
      next = refl;
    }
thread_step c t (k ∷ ks) (Some old) at new = by (same_numbers old.emails (k ∷ ks)) refl
  where
    item : Thread
    item = record { number = t; emails = k ∷ ks }

    as_it_is : same_numbers old.emails (k ∷ ks) ≡ true → old ≡ item
    as_it_is e =
        let number : old.number ≡ t = lookup_number thread_number t c.threads old at in
        let emails : old.emails ≡ k ∷ ks = same_list old.emails (k ∷ ks) e in
        λ i. record { number = number i; emails = emails i }

    by : (b : Bool) → same_numbers old.emails (k ∷ ks) ≡ b → IsStep c t (k ∷ ks) (Some old) (cond b [] (PutThread item true ∷ []))
    by true e = record {
      fit = tt;
      same = unchanged c;
      here = at ∙ ap Some (as_it_is e);
      others = λ n away. refl;
      next = refl;
    }
    by false e = record {
      fit = ((sym (ap is_some at), λ no. absurd (true≢false no)), tt);
      same = record { mailboxes = refl; emails = refl; next_mailbox = refl; next_email = refl };
      here = lookup-put_same thread_number item t refl c.threads;
      others = λ n away. lookup-put_other thread_number item n away c.threads;
      next = refl;
    }

-- What the edits of threads do that are up to date with the emails of a content: these fit, change threads alone, and leave each
-- of the threads as its emails have it and every other thread as it is.
pub record IsThreaded (after c : Content) (ts : List ℕ) : Type 0 where
  pub fit : AllFit c (flat_map (thread_edits after) ts)
  pub same : SameButThreads c (after_edits c (flat_map (thread_edits after) ts))
  pub here : (t : ℕ) → is_one_of ts t ≡ true → thread_at (after_edits c (flat_map (thread_edits after) ts)) t ≡ thread_now t (list_of_thread after.emails t)
  pub others : (n : ℕ) → is_one_of ts n ≡ false → thread_at (after_edits c (flat_map (thread_edits after) ts)) n ≡ thread_at c n

joined : (b c d : Content) → SameButThreads b c → SameButThreads c d → SameButThreads b d
joined b c d one other = record {
  mailboxes = other.mailboxes ∙ one.mailboxes;
  emails = other.emails ∙ one.emails;
  next_mailbox = other.next_mailbox ∙ one.next_mailbox;
  next_email = other.next_email ∙ one.next_email;
}

not_later : (t : ℕ) (ts : List ℕ) → AllByRecursion (λ n. t < n) ts → is_one_of ts t ≡ false
not_later t [] all = refl
not_later t (x ∷ xs) all =
    let lt : t < x = all.0 in
    let away : eqb x t ≡ false = ne_eqb x t (λ e. omega arith) in rw away (not_later t xs all.1)

-- the threads that are not in the content
abbrev missing : Content → List ℕ → List ℕ
missing after ts = filter (λ t. not (is_some (thread_at after t))) ts

first_new : (after : Content) (t : ℕ) (ts : List ℕ) (next : ℕ) (o : Option Thread) → thread_at after t ≡ o → AreInTurn next (missing after (t ∷ ts)) → o ≡ None → t ≡ next
first_new after t ts next o at turn none =
    let gone : is_some (thread_at after t) ≡ false = ap is_some (at ∙ none) in
    (subst (λ b. AreInTurn next (cond (not b) (t ∷ missing after ts) (missing after ts))) gone turn).0

rest_new : (after : Content) (t : ℕ) (ts : List ℕ) (next : ℕ) (o : Option Thread) → thread_at after t ≡ o → AreInTurn next (missing after (t ∷ ts))
    → AreInTurn (next_thread_after o t next) (missing after ts)
rest_new after t ts next None at turn =
    let both = subst (λ p. AreInTurn next (cond (not (is_some p)) (t ∷ missing after ts) (missing after ts))) at turn in
    subst (λ k. AreInTurn (k + 1) (missing after ts)) (sym both.0) both.1
rest_new after t ts next (Some old) at turn = subst (λ p. AreInTurn next (cond (not (is_some p)) (t ∷ missing after ts) (missing after ts))) at turn

pub threaded : (after : Content) (ts : List ℕ) (c : Content) → IsTable (λ (n : ℕ). n) ts
    → AllByRecursion (λ t. thread_at c t ≡ thread_at after t) ts → AreInTurn c.next_thread (missing after ts) → IsThreaded after c ts
threaded after [] c rise alike turn = record { fit = tt; same = unchanged c; here = λ t e. absurd (true≢false (sym e)); others = λ n e. refl }
threaded after (t ∷ ts) c rise alike turn =
    let o = thread_at after t in
    let listed = list_of_thread after.emails t in
    let first = edits_of_thread t listed o in
    let step = thread_step c t listed o alike.0 (first_new after t ts c.next_thread o refl turn) in
    let d = after_edits c first in
    let turn_more = subst (λ k. AreInTurn k (missing after ts)) (sym step.next) (rest_new after t ts c.next_thread o refl turn) in
    let rest = threaded after ts d rise.1 (still ts rise.0 alike.1 step) turn_more in
    let all = first ++ flat_map (thread_edits after) ts in
    let is : after_edits c all ≡ after_edits d (flat_map (thread_edits after) ts) = after_edits-append first (flat_map (thread_edits after) ts) c in record {
      fit = AllFit-append first (flat_map (thread_edits after) ts) c step.fit rest.fit;
      same = subst (SameButThreads c) (sym is) (joined c d (after_edits d (flat_map (thread_edits after) ts)) step.same rest.same);
      here = λ n e.
          ap (λ x. thread_at x n) is
          ∙ ⊎_elim
          (λ (s : eqb t n ≡ true).
          let same : t ≡ n = eqb-true t n s in
          subst (λ k. thread_at (after_edits d (flat_map (thread_edits after) ts)) k ≡ thread_now k (list_of_thread after.emails k)) same
          (rest.others t (not_later t ts rise.0) ∙ step.here))
          (λ (s : eqb t n ≡ false). rest.here n (subst (λ b. (b || is_one_of ts n) ≡ true) s e))
          (cases_Bool (eqb t n));
      others = λ n e.
          ap (λ x. thread_at x n) is ∙ (rest.others n (or_second (eqb t n) (is_one_of ts n) e) ∙ step.others n (or_first (eqb t n) (is_one_of ts n) e));
    }
  where
    or_first : (a b : Bool) → (a || b) ≡ false → a ≡ false
    or_first true b h = absurd (true≢false h)
    or_first false b h = refl

    or_second : (a b : Bool) → (a || b) ≡ false → b ≡ false
    or_second true b h = absurd (true≢false h)
    or_second false b h = h

    still : (ns : List ℕ) → AllByRecursion (λ n. t < n) ns → AllByRecursion (λ n. thread_at c n ≡ thread_at after n) ns
        → IsStep c t (list_of_thread after.emails t) (thread_at after t) (edits_of_thread t (list_of_thread after.emails t) (thread_at after t))
        → AllByRecursion (λ n. thread_at (after_edits c (edits_of_thread t (list_of_thread after.emails t) (thread_at after t))) n ≡ thread_at after n) ns
    still [] above all step = tt
    still (n ∷ ns) above all step =
        let lt : t < n = above.0 in
        let away : eqb t n ≡ false = ne_eqb t n (λ e. omega arith) in
        (step.others n away ∙ all.0, still ns above.1 all.1 step)

-- ---- counts

-- a mailbox whose counts become these
abbrev pub mailbox_with : (Mailbox → MailboxCounts) → Mailbox → Mailbox
mailbox_with counts m = with_counts (counts m) m

-- the puts of the mailboxes whose counts differ from these
abbrev pub puts_of : (Mailbox → MailboxCounts) → List Mailbox → List Edit
puts_of counts ms = flat_map (λ m. put_counts (counts m) m) ms

-- the contents differ in mailboxes alone, which are these
pub record SameWithMailboxes (c d : Content) (ms : List Mailbox) : Type 0 where
  pub mailboxes : d.mailboxes ≡ ms
  pub emails : d.emails ≡ c.emails
  pub threads : d.threads ≡ c.threads
  pub next_mailbox : d.next_mailbox ≡ c.next_mailbox
  pub next_email : d.next_email ≡ c.next_email
  pub next_thread : d.next_thread ≡ c.next_thread

put_in_place : (m new : Mailbox) (front back : List Mailbox) → new.number ≡ m.number → AllByRecursion (λ (x : Mailbox). x.number < m.number) front
    → put mailbox_number new (front ++ m ∷ back) ≡ front ++ new ∷ back
put_in_place m new [] back same low =
    let after : ltb new.number m.number ≡ false = subst (λ k. ltb k m.number ≡ false) (sym same) (not_less m.number) in
    let here : eqb new.number m.number ≡ true = eq-eqb new.number m.number same in rw after (rw here refl)
  where
    not_less : (n : ℕ) → ltb n n ≡ false
    not_less n = le-ltb n n (omega arith)
put_in_place m new (x ∷ xs) back same low =
    let lt : x.number < m.number = low.0 in
    let after : ltb new.number x.number ≡ false = past new.number x.number (subst (λ k. x.number < k) (sym same) lt) in
    let other : eqb new.number x.number ≡ false = ne_eqb new.number x.number (λ e. omega (arith, same)) in
    rw after (rw other (ap (λ zs. x ∷ zs) (put_in_place m new xs back same low.1)))
  where
    past : (a b : ℕ) → b < a → ltb a b ≡ false
    past a b lt = le-ltb a b (omega (arith, lt))

-- a mailbox with the counts that it has
equal_counts : (m : Mailbox) (counts : MailboxCounts) → are_equal_counts (own_counts m) counts ≡ true → with_counts counts m ≡ m
equal_counts m counts e =
    let one = eqb m.total_emails counts.total_emails in
    let two = eqb m.unread_emails counts.unread_emails in
    let three = eqb m.total_threads counts.total_threads in
    let four = eqb m.unread_threads counts.unread_threads in
    let front = and_left ((one && two) && three) four e in
    let fourth = and_right ((one && two) && three) four e in
    let both = and_left (one && two) three front in
    let third = and_right (one && two) three front in
    let first = and_left one two both in
    let second = and_right one two both in
    let a = sym (eqb-true m.total_emails counts.total_emails first) in
    let b = sym (eqb-true m.unread_emails counts.unread_emails second) in
    let c = sym (eqb-true m.total_threads counts.total_threads third) in
    let d = sym (eqb-true m.unread_threads counts.unread_threads fourth) in
    λ i. record m { total_emails = a i; unread_emails = b i; total_threads = c i; unread_threads = d i }
  where
    and_left : (a b : Bool) → (a && b) ≡ true → a ≡ true
    and_left true b e = refl
    and_left false b e = e

    and_right : (a b : Bool) → (a && b) ≡ true → b ≡ true
    and_right true b e = e
    and_right false b e = absurd (true≢false (sym e))

-- What the puts of mailboxes do whose counts become others: these fit, and leave each mailbox with the counts that it gets.
pub record IsRecounted (counts : Mailbox → MailboxCounts) (c : Content) (front back : List Mailbox) (edits : List Edit) : Type 0 where
  pub fit : AllFit c edits
  pub after : SameWithMailboxes c (after_edits c edits) (front ++ map (mailbox_with counts) back)
  pub flags : AreCountsFlagsRight c edits

find_here : (m : Mailbox) (front back : List Mailbox) → AllByRecursion (λ (x : Mailbox). x.number < m.number) front
    → lookup mailbox_number m.number (front ++ m ∷ back) ≡ Some m
find_here m [] back low = let here : eqb m.number m.number ≡ true = eq-eqb m.number m.number refl in rw here refl
find_here m (x ∷ xs) back low =
    let lt : x.number < m.number = low.0 in
    let away : eqb x.number m.number ≡ false = ne_eqb x.number m.number (λ e. omega arith) in rw away (find_here m xs back low.1)

all_below : (front : List Mailbox) (m : Mailbox) (n : ℕ) → m.number < n → AllByRecursion (λ (x : Mailbox). x.number < m.number) front
    → AllByRecursion (λ (x : Mailbox). x.number < n) front
all_below [] m n lt all = tt
all_below (x ∷ xs) m n lt all = (let low = all.0 in omega arith, all_below xs m n lt all.1)

all_last : {A : Type 0} (P : A → Type 0) (r : A) (xs : List A) → AllByRecursion P xs → P r → AllByRecursion P (xs ++ r ∷ [])
all_last P r [] all here = (here, tt)
all_last P r (x ∷ xs) all here = (all.0, all_last P r xs all.1 here)

-- what is before a row is below each row after it
front_below : (front : List Mailbox) (m new : Mailbox) (back : List Mailbox) → new.number ≡ m.number
    → AllByRecursion (λ (x : Mailbox). x.number < m.number) front → AllByRecursion (λ (x : Mailbox). m.number < x.number) back
    → AllByRecursion (λ (y : Mailbox). AllByRecursion (λ (x : Mailbox). x.number < y.number) (front ++ new ∷ [])) back
front_below front m new [] same low above = tt
front_below front m new (y ∷ ys) same low above = (
  all_last (λ (x : Mailbox). x.number < y.number) new front (all_below front m y.number above.0 low) (subst (λ k. k < y.number) (sym same) above.0),
  front_below front m new ys same low above.1,
)

append_one : (front : List Mailbox) (m : Mailbox) (back : List Mailbox) → (front ++ m ∷ []) ++ back ≡ front ++ m ∷ back
append_one [] m back = refl
append_one (x ∷ xs) m back = ap (λ zs. x ∷ zs) (append_one xs m back)

pub recounted : (counts : Mailbox → MailboxCounts) (back front : List Mailbox) (c : Content) → c.mailboxes ≡ front ++ back → IsTable mailbox_number back
    → AllByRecursion (λ (y : Mailbox). AllByRecursion (λ (x : Mailbox). x.number < y.number) front) back → IsRecounted counts c front back (puts_of counts back)
recounted counts [] front c is table low = record {
  fit = tt;
  after = record { mailboxes = is; emails = refl; threads = refl; next_mailbox = refl; next_email = refl; next_thread = refl };
  flags = tt;
}
recounted counts (m ∷ ms) front c is table low =
    step (are_equal_counts (own_counts m) (counts m)) refl
    (λ d same. recounted counts ms (front ++ new ∷ []) d same table.1 (front_below front m new ms refl low.0 table.0))
  where
    new : Mailbox
    new = mailbox_with counts m

    edit : Edit
    edit = PutMailbox new true true

    at : mailbox_at c m.number ≡ Some m
    at = ap (lookup mailbox_number m.number) is ∙ find_here m front ms low.0

    only_counts : SameButCounts m new
    only_counts = record { number = refl; name = refl; parent = refl; role = refl; sort_order = refl; subscribed = refl }

    right : IsCountsFlagRight c edit
    right = ((λ e. subst (λ o. ChangesOnlyCounts o new) (sym at) only_counts), λ e. refl)

    place : (mailboxes : List Mailbox) → mailboxes ≡ (front ++ new ∷ []) ++ map (mailbox_with counts) ms → mailboxes ≡ front ++ map (mailbox_with counts) (m ∷ ms)
    place mailboxes e = e ∙ append_one front new (map (mailbox_with counts) ms)

    step : (b : Bool) → are_equal_counts (own_counts m) (counts m) ≡ b
        → ((d : Content) → d.mailboxes ≡ (front ++ new ∷ []) ++ ms → IsRecounted counts d (front ++ new ∷ []) ms (puts_of counts ms))
        → IsRecounted counts c front (m ∷ ms) (cond b [] (edit ∷ []) ++ puts_of counts ms)
    step true e rec =
        let kept : new ≡ m = equal_counts m (counts m) e in
        let rest = rec c (is ∙ (ap (λ (x : Mailbox). front ++ x ∷ ms) (sym kept) ∙ sym (append_one front new ms))) in
        record {
          fit = rest.fit;
          after = record {
            mailboxes = place (after_edits c (puts_of counts ms)).mailboxes rest.after.mailboxes;
            emails = rest.after.emails;
            threads = rest.after.threads;
            next_mailbox = rest.after.next_mailbox;
            next_email = rest.after.next_email;
            next_thread = rest.after.next_thread;
          };
          flags = rest.flags;
        }
    step false e rec =
        let d = after_edit c edit in
        let put_is : d.mailboxes ≡ (front ++ new ∷ []) ++ ms =
        ap (put mailbox_number new) is ∙ (put_in_place m new front ms refl low.0 ∙ sym (append_one front new ms)) in
        let rest = rec d put_is in
        record {
          fit = ((sym (ap is_some at), λ no. absurd (true≢false no)), rest.fit);
          after = record {
            mailboxes = place (after_edits d (puts_of counts ms)).mailboxes rest.after.mailboxes;
            emails = rest.after.emails;
            threads = rest.after.threads;
            next_mailbox = rest.after.next_mailbox;
            next_email = rest.after.next_email;
            next_thread = rest.after.next_thread;
          };
          flags = (right, rest.flags);
        }

-- ---- flags of all derived edits

flags_append : (xs ys : List Edit) (c : Content) → AreCountsFlagsRight c xs → AreCountsFlagsRight (after_edits c xs) ys → AreCountsFlagsRight c (xs ++ ys)
flags_append [] ys c one other = other
flags_append (x ∷ xs) ys c one other = (one.0, flags_append xs ys (after_edit c x) one.1 other)

thread_flags : (t : ℕ) (listed : List ℕ) (o : Option Thread) (c : Content) → AreCountsFlagsRight c (edits_of_thread t listed o)
thread_flags t [] None c = (tt, (tt, tt))
thread_flags t [] (Some old) c = (tt, tt)
thread_flags t (n ∷ ns) None c = (tt, tt)
thread_flags t (n ∷ ns) (Some old) c = by (same_numbers old.emails (n ∷ ns))
  where
    by : (b : Bool) → AreCountsFlagsRight c (cond b [] (PutThread (record { number = t; emails = n ∷ ns }) true ∷ []))
    by true = tt
    by false = (tt, tt)

mailboxes_stay : (t : ℕ) (listed : List ℕ) (o : Option Thread) (c : Content) → (after_edits c (edits_of_thread t listed o)).mailboxes ≡ c.mailboxes
mailboxes_stay t [] None c = refl
mailboxes_stay t [] (Some old) c = refl
mailboxes_stay t (n ∷ ns) None c = refl
mailboxes_stay t (n ∷ ns) (Some old) c = by (same_numbers old.emails (n ∷ ns))
  where
    by : (b : Bool) → (after_edits c (cond b [] (PutThread (record { number = t; emails = n ∷ ns }) true ∷ []))).mailboxes ≡ c.mailboxes
    by true = refl
    by false = refl

threads_flags : (after : Content) (ts : List ℕ) (c : Content) → AreCountsFlagsRight c (flat_map (thread_edits after) ts)
threads_flags after [] c = tt
threads_flags after (t ∷ ts) c =
    flags_append (thread_edits after t) (flat_map (thread_edits after) ts) c
    (thread_flags t (list_of_thread after.emails t) (thread_at after t) c)
    (threads_flags after ts (after_edits c (thread_edits after t)))

threads_leave_mailboxes : (after : Content) (ts : List ℕ) (c : Content) → (after_edits c (flat_map (thread_edits after) ts)).mailboxes ≡ c.mailboxes
threads_leave_mailboxes after [] c = refl
threads_leave_mailboxes after (t ∷ ts) c =
    ap (λ (d : Content). d.mailboxes) (after_edits-append (thread_edits after t) (flat_map (thread_edits after) ts) c)
    ∙ (threads_leave_mailboxes after ts (after_edits c (thread_edits after t)) ∙ mailboxes_stay t (list_of_thread after.emails t) (thread_at after t) c)

none_before : (ms : List Mailbox) → AllByRecursion (λ (y : Mailbox). AllByRecursion (λ (x : Mailbox). x.number < y.number) []) ms
none_before [] = tt
none_before (m ∷ ms) = (tt, none_before ms)

-- the puts of all mailboxes of a content whose threads may have changed
pub all_recounted : (counts : Mailbox → MailboxCounts) (ms : List Mailbox) (c : Content) → c.mailboxes ≡ ms → IsTable mailbox_number ms → IsRecounted counts c [] ms (puts_of counts ms)
all_recounted counts ms c is table = recounted counts ms [] c is table (none_before ms)

-- each flag of the derived edits is right
pub derived_flags : (before after : Content) (ts : List ℕ) → IsTable mailbox_number after.mailboxes → AreCountsFlagsRight after (derived_from before after ts)
derived_flags before after ts table =
    let threads = flat_map (thread_edits after) ts in
    let were = filter (λ (e : Email). is_one_of ts e.thread) before.emails in
    let are = filter (λ (e : Email). is_one_of ts e.thread) after.emails in
    flags_append threads (puts_of (counts_between were are) after.mailboxes) after (threads_flags after ts after)
    (all_recounted (counts_between were are) after.mailboxes (after_edits after threads) (threads_leave_mailboxes after ts after) table).flags
