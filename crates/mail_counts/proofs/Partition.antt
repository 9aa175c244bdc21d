-- The counts of a mailbox, split by whether an email's thread is one of some threads, and what edits of emails of these leave
-- of the others.
use Rattle.std.proofs.Common.{◌≡◌, ℕ, ◌+◌, ◌-◌, ◌^◌, ◌<◌, ◌≤◌, min, Bool, true, false, ◌||◌, ◌&&◌, not, cond, eqb, leb, List, [], ◌∷◌, map, filter, length, Option, Some, None, refl, sym, ap, ap₂, ◌∙◌, subst, arith, ⊎_elim, eqb-true, eq-eqb, ne_eqb}
use Rattle.std.specs.List.{AllByRecursion}
use Rattle.std.proofs.lemmas.Bool.{cases_Bool, leb-false, leb-true, true≢false}
use Rattle.std.proofs.Math.Nat.{min-eq_left}
use Rattle.mail_records.specs.Tables.{IsTable, lookup}
use Rattle.mail_records.specs.Contents.{Content, AreTables, email_number, email_at}
use Rattle.mail_records.specs.Edits.{after_edit, after_edits, named_thread, Fits, AllFit, KeepsThread, AllKeepThread}
use Rattle.mail_records.specs.declared.records.Email.{Email}
use Rattle.mail_records.specs.declared.edits.Edit.{Edit}
use Rattle.mail_records.specs.declared.edits.Edit.TheVariants.{PutMailbox, DropMailbox, PutEmail, DropEmail, PutThread, DropThread}
use Rattle.mail_records.proofs.Growth.{AreTables-after_edit}
use Rattle.mail_records.proofs.Tables.{filter-put, filter-without}
use Rattle.mail_counts.specs.Counts.{each_once, email_thread, emails_in, is_in, is_unread, is_unread_thread, threads_in}
use Rattle.mail_counts.specs.DerivedEdits.{count_after, counts_over}
use Rattle.mail_counts.specs.Touched.{is_one_of, rising, threads_named, touched_threads, with_number}
use Rattle.mail_counts.proofs.Groups.{filter-map, filter_swap, once-filter}
use Rattle.mail_counts.proofs.Sorted.{is_one_of-rising}

-- ---- a table by look-ups

above_row : {R : Type 0} (number : R → ℕ) (r : R) (rs : List R) → AllByRecursion (λ x. number r < number x) rs
    → (P : R → Type 0) → ((x : R) → number r < number x → lookup number (number x) rs ≡ Some x → P x)
    → ((x : R) → lookup number (number x) rs ≡ Some x → P x)
above_row {R = R} number r rs above P holds x there = holds x (found rs above there) there
  where
    found : (xs : List R) → AllByRecursion (λ y. number r < number y) xs → lookup number (number x) xs ≡ Some x → number r < number x
    found [] all e = absurd (cc)
    found (y ∷ ys) all e =
        ⊎_elim
        (λ (t : eqb (number y) (number x) ≡ true). let same = eqb-true (number y) (number x) t in let lt : number r < number y = all.0 in omega arith)
        (λ (t : eqb (number y) (number x) ≡ false). found ys all.1 (subst (λ b. cond b (Some y) (lookup number (number x) ys) ≡ Some x) t e))
        (cases_Bool (eqb (number y) (number x)))

-- what holds of each record that is found holds of all
pub all_found : {R : Type 0} (number : R → ℕ) (P : R → Type 0) (rows : List R) → IsTable number rows
    → ((r : R) → lookup number (number r) rows ≡ Some r → P r) → AllByRecursion P rows
all_found number P [] table holds = tt
all_found number P (r ∷ rs) table holds =
    let here : eqb (number r) (number r) ≡ true = eq-eqb (number r) (number r) refl in (
      holds r (rw here refl),
      all_found number P rs table.1
          (above_row number r rs table.0 P
          (λ x lt there. holds x (let away : eqb (number r) (number x) ≡ false = ne_eqb (number r) (number x) (λ e. omega arith) in rw away there))),
    )

-- ---- what edits leave

-- the thread that the edit names for its email is one of these
abbrev pub NamesOneOf : List ℕ → Edit → Type 0
NamesOneOf threads e = (t : ℕ) → named_thread e ≡ Some t → is_one_of threads t ≡ true

names_head : (o : Option ℕ) (ns : List ℕ) (t : ℕ) → o ≡ Some t → is_one_of (with_number o ns) t ≡ true
names_head None ns t e = absurd (cc)
names_head (Some n) ns t e = let same : n ≡ t = cc in let here : eqb n t ≡ true = eq-eqb n t same in rw here refl

names_more : (o : Option ℕ) (ns : List ℕ) (t : ℕ) → is_one_of ns t ≡ true → is_one_of (with_number o ns) t ≡ true
names_more None ns t h = h
names_more (Some n) ns t h = or_right (eqb n t) (is_one_of ns t) h
  where
    or_right : (a b : Bool) → b ≡ true → (a || b) ≡ true
    or_right true b e = refl
    or_right false b e = e

all_named : (es : List Edit) → AllByRecursion (NamesOneOf (threads_named es)) es
all_named [] = tt
all_named (e ∷ es) = (
  (λ t is. names_head (named_thread e) (threads_named es) t is),
  weaker es (all_named es),
)
  where
    weaker : (xs : List Edit) → AllByRecursion (NamesOneOf (threads_named es)) xs → AllByRecursion (NamesOneOf (with_number (named_thread e) (threads_named es))) xs
    weaker [] all = tt
    weaker (x ∷ xs) all = ((λ t is. names_more (named_thread e) (threads_named es) t (all.0 t is)), weaker xs all.1)

pub all_touched : (es : List Edit) → AllByRecursion (NamesOneOf (touched_threads es)) es
all_touched es = turned es (all_named es)
  where
    turned : (xs : List Edit) → AllByRecursion (NamesOneOf (threads_named es)) xs → AllByRecursion (NamesOneOf (touched_threads es)) xs
    turned [] all = tt
    turned (x ∷ xs) all = ((λ t is. is_one_of-rising (threads_named es) t ∙ all.0 t is), turned xs all.1)

abbrev pub outside : List ℕ → Email → Bool
outside threads e = not (is_one_of threads e.thread)

others_after : (threads : List ℕ) (c : Content) (e : Edit) → AreTables c → Fits c e → KeepsThread c e → NamesOneOf threads e
    → filter (outside threads) (after_edit c e).emails ≡ filter (outside threads) c.emails
others_after threads c (PutMailbox item was counts) tables fit keep names = refl
others_after threads c (DropMailbox number) tables fit keep names = refl
others_after threads c (PutEmail item was) tables fit keep names =
    let inside : is_one_of threads item.thread ≡ true = names item.thread refl in
    filter-put email_number (outside threads) item (ap not inside) c.emails
    (all_found email_number (λ (x : Email). item.number ≡ x.number → outside threads x ≡ false) c.emails tables.emails
    (λ x there same. ap (λ t. not (is_one_of threads t)) (keep x (ap (email_at c) same ∙ there)) ∙ ap not inside))
others_after threads c (DropEmail number thread) tables fit keep names =
    let inside : is_one_of threads thread ≡ true = names thread refl in
    filter-without email_number (outside threads) number c.emails
    (all_found email_number (λ (x : Email). x.number ≡ number → outside threads x ≡ false) c.emails tables.emails
    (λ x there same.
    let one : x ≡ fit.0 = some_same x fit.0 (sym there ∙ (ap (email_at c) same ∙ fit.1)) in
    ap (λ (y : Email). not (is_one_of threads y.thread)) one ∙ (ap (λ t. not (is_one_of threads t)) fit.2 ∙ ap not inside)))
  where
    some_same : (x y : Email) → Some x ≡ Some y → x ≡ y
    some_same x y e = cc
others_after threads c (PutThread item was) tables fit keep names = refl
others_after threads c (DropThread number) tables fit keep names = refl

-- emails of other threads than the edits name are as they were
pub others_stay : (threads : List ℕ) (es : List Edit) (c : Content) → AreTables c → AllFit c es → AllKeepThread c es → AllByRecursion (NamesOneOf threads) es
    → filter (outside threads) (after_edits c es).emails ≡ filter (outside threads) c.emails
others_stay threads [] c tables fit keep names = refl
others_stay threads (e ∷ es) c tables fit keep names =
    others_stay threads es (after_edit c e) (AreTables-after_edit c e tables) fit.1 keep.1 names.1
    ∙ others_after threads c e tables fit.0 keep.0 names.0

-- ---- counts in two parts

split_length : {A : Type 0} (q : A → Bool) (xs : List A) → length xs ≡ length (filter q xs) + length (filter (λ x. not (q x)) xs)
split_length q [] = refl
split_length q (x ∷ xs) = let rest = split_length q xs in
    ⊎_elim
    (λ (t : q x ≡ true). rw t (omega (arith, rest)))
    (λ (t : q x ≡ false). rw t (omega (arith, rest)))
    (cases_Bool (q x))

alike_on : {A : Type 0} (q u v : A → Bool) → ((x : A) → q x ≡ true → u x ≡ v x) → (xs : List A) → filter u (filter q xs) ≡ filter v (filter q xs)
alike_on q u v same [] = refl
alike_on q u v same (x ∷ xs) =
    ⊎_elim
    (λ (t : q x ≡ true). rw t (ap₂ (λ b zs. cond b (x ∷ zs) zs) (same x t) (alike_on q u v same xs)))
    (λ (t : q x ≡ false). rw t (alike_on q u v same xs))
    (cases_Bool (q x))

-- a thread that passes is unread by the emails whose threads pass alone
unread_part : (q : ℕ → Bool) (t : ℕ) → q t ≡ true → (emails : List Email) → is_unread_thread emails t ≡ is_unread_thread (filter (λ e. q e.thread) emails) t
unread_part q t pass [] = refl
unread_part q t pass (e ∷ es) =
    ⊎_elim
    (λ (s : q e.thread ≡ true). rw s (ap (λ b. (eqb e.thread t && is_unread e) || b) (unread_part q t pass es)))
    (λ (s : q e.thread ≡ false).
    let away : eqb e.thread t ≡ false = ne_eqb e.thread t (λ w. true≢false (sym pass ∙ (ap q (sym w) ∙ s))) in
    rw s (rw away (unread_part q t pass es)))
    (cases_Bool (q e.thread))

-- the four counts over the emails whose threads pass
abbrev pub part : (ℕ → Bool) → List Email → List Email
part q emails = filter (λ (e : Email). q e.thread) emails

threads_part : (q : ℕ → Bool) (m : ℕ) (emails : List Email) → filter q (threads_in m emails) ≡ threads_in m (part q emails)
threads_part q m emails =
    once-filter q (map email_thread (emails_in m emails))
    ∙ ap each_once (filter-map q email_thread (emails_in m emails) ∙ ap (map email_thread) (filter_swap (λ (e : Email). q e.thread) (is_in m) emails))

unread_threads_part : (q : ℕ → Bool) (m : ℕ) (emails : List Email)
    → filter q (filter (is_unread_thread emails) (threads_in m emails)) ≡ filter (is_unread_thread (part q emails)) (threads_in m (part q emails))
unread_threads_part q m emails =
    filter_swap q (is_unread_thread emails) (threads_in m emails)
    ∙ (alike_on q (is_unread_thread emails) (is_unread_thread (part q emails)) (λ t pass. unread_part q t pass emails) (threads_in m emails)
    ∙ ap (filter (is_unread_thread (part q emails))) (threads_part q m emails))

abbrev pub rest : (ℕ → Bool) → ℕ → Bool
rest q t = not (q t)

pub split_total_emails : (q : ℕ → Bool) (m : ℕ) (emails : List Email)
    → (counts_over emails m).total_emails ≡ (counts_over (part q emails) m).total_emails + (counts_over (part (rest q) emails) m).total_emails
split_total_emails q m emails =
    split_length (λ (e : Email). q e.thread) (emails_in m emails)
    ∙ ap₂ (λ a b. length a + length b) (filter_swap (λ (e : Email). q e.thread) (is_in m) emails) (filter_swap (λ (e : Email). rest q e.thread) (is_in m) emails)

pub split_unread_emails : (q : ℕ → Bool) (m : ℕ) (emails : List Email)
    → (counts_over emails m).unread_emails ≡ (counts_over (part q emails) m).unread_emails + (counts_over (part (rest q) emails) m).unread_emails
split_unread_emails q m emails =
    split_length (λ (e : Email). q e.thread) (filter is_unread (emails_in m emails))
    ∙ ap₂ (λ a b. length a + length b) (turned q) (turned (rest q))
  where
    turned : (p : ℕ → Bool) → filter (λ (e : Email). p e.thread) (filter is_unread (emails_in m emails)) ≡ filter is_unread (emails_in m (part p emails))
    turned p =
        filter_swap (λ (e : Email). p e.thread) is_unread (emails_in m emails)
        ∙ ap (filter is_unread) (filter_swap (λ (e : Email). p e.thread) (is_in m) emails)

pub split_total_threads : (q : ℕ → Bool) (m : ℕ) (emails : List Email)
    → (counts_over emails m).total_threads ≡ (counts_over (part q emails) m).total_threads + (counts_over (part (rest q) emails) m).total_threads
split_total_threads q m emails =
    split_length q (threads_in m emails) ∙ ap₂ (λ a b. length a + length b) (threads_part q m emails) (threads_part (rest q) m emails)

pub split_unread_threads : (q : ℕ → Bool) (m : ℕ) (emails : List Email)
    → (counts_over emails m).unread_threads ≡ (counts_over (part q emails) m).unread_threads + (counts_over (part (rest q) emails) m).unread_threads
split_unread_threads q m emails =
    split_length q (filter (is_unread_thread emails) (threads_in m emails))
    ∙ ap₂ (λ a b. length a + length b) (unread_threads_part q m emails) (unread_threads_part (rest q) m emails)

-- ---- by difference

-- a count that is right before is right after
pub count_is : (own taken added other after : ℕ) → own ≡ taken + other → after ≡ added + other → after < 2 ^ 64 → count_after own added taken ≡ after
count_is own taken added other after before now small =
    ⊎_elim
    (λ (t : leb added taken ≡ true). let le = leb-true added taken t in rw t (fewer le))
    (λ (t : leb added taken ≡ false). let lt = leb-false added taken t in rw t (more lt))
    (cases_Bool (leb added taken))
  where
    least : (n : ℕ) → n < 2 ^ 64 → min n (2 ^ 64 - 1) ≡ n
    least n lt = min-eq_left (omega (arith, lt))

    fewer : added ≤ taken → own - (taken - added) ≡ after
    fewer le = omega arith

    more : taken < added → min (own + (added - taken)) (2 ^ 64 - 1) ≡ after
    more lt = let sum : own + (added - taken) ≡ after = omega arith in ap (λ n. min n (2 ^ 64 - 1)) sum ∙ least after small
