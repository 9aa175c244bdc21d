-- Each query has one result list.
use Rattle.std.proofs.Common.{◌≡◌, ℕ, Bool, true, false, ◌&&◌, ◌||◌, eqb, eqb-true, eq-eqb, List, [], ◌∷◌, map, filter, Option, Some, None, option_map, is_some, refl, sym, ap, ◌∙◌, subst, ⊎_elim}
use Rattle.std.specs.List.Sorted.{IsStrictlySortedBy}
use Rattle.std.specs.Ordering.{is_eq}
use Rattle.std.specs.Cmp.{IsTotalOrder}
use Rattle.std.specs.declared.cmp.Ordering.{Ordering}
use Rattle.std.specs.declared.cmp.Ordering.TheVariants.{Less, Equal, Greater}
use Rattle.std.proofs.lemmas.Bool.{cases_Bool, true≢false}
use Rattle.std.proofs.lemmas.Cmp.{tied_itself}
use Rattle.jm_base.specs.Splices.{has}
use Rattle.jm_base.specs.declared.identifiers.Kind.{Kind}
use Rattle.jm_base.specs.declared.identifiers.Kind.TheVariants.{Mailbox as OfMailboxes, Email as OfEmails, Thread as OfThreads}
use Rattle.jm_base.proofs.Spliced.{has-filter}
use Rattle.mail_records.specs.Contents.{Content, email_number, mailbox_number}
use Rattle.mail_records.specs.Orders.{has_by}
use Rattle.mail_records.specs.Tables.{lookup}
use Rattle.mail_records.proofs.Rising.{has-put_all, rise-put_all}
use Rattle.mail_records.proofs.Unique.{rise_unique}
use Rattle.method_args.specs.Arguments.{passes}
use Rattle.filter_terms.specs.Filters.{holds}
use Rattle.filter_terms.specs.Targets.{AMailbox, AnEmail, email_in_thread}
use Rattle.filter_terms.specs.Texts.{MessageTexts}
use Rattle.filter_terms.proofs.Lists.{any_same, same_tests}
use Rattle.sort_terms.proofs.Total.{numbers_total, numbers_apart}
use Rattle.query_engine.specs.Laws.{IsTheResult, ThereIsOneResult}
use Rattle.query_engine.specs.Queries.{numbers_of, order_of, result_list, shows, shows_email, shows_of, sorted_by}
use Rattle.query_engine.specs.Views.{QueryTree}
use Rattle.query_engine.specs.Walks.{is_match, matches_list}

pub eq_Equal : (r : Ordering) → is_eq r ≡ true → r ≡ Equal
eq_Equal Less e = absurd (true≢false (sym e))
eq_Equal Equal e = refl
eq_Equal Greater e = absurd (true≢false (sym e))

or_false : (b : Bool) → (b || false) ≡ b
or_false true = refl
or_false false = refl

module _ {R : ℕ → ℕ → Ordering} (o : IsTotalOrder R) (apart : (a b : ℕ) → R a b ≡ Equal → a ≡ b) where
  pub is_one : (n x : ℕ) → is_eq (R x n) ≡ eqb x n
  is_one n x =
      same_tests (is_eq (R x n)) (eqb x n) (λ e. eq-eqb x n (apart x n (eq_Equal (R x n) e)))
      (λ e. subst (λ y. is_eq (R x y) ≡ true) (eqb-true x n e) (ap is_eq (tied_itself o x)))

  has_same : (xs : List ℕ) (n : ℕ) → has_by R n xs ≡ has xs n
  has_same xs n = any_same (λ x. is_eq (R x n)) (λ x. eqb x n) xs (is_one n)

  pub has_sorted : (ns : List ℕ) (n : ℕ) → has (sorted_by R ns) n ≡ has ns n
  has_sorted ns n =
      sym (has_same (sorted_by R ns) n) ∙ (has-put_all o ns n [] ∙ (or_false (has_by R n ns) ∙ has_same ns n))

  pub sorted_rises : (ns : List ℕ) → IsStrictlySortedBy R (sorted_by R ns)
  unfolding IsStrictlySortedBy
  sorted_rises ns = rise-put_all o ns [] tt

  -- two lists that rise and have the same numbers are the same
  pub one_list : (xs ys : List ℕ) → IsStrictlySortedBy R xs → IsStrictlySortedBy R ys → ((n : ℕ) → has xs n ≡ has ys n) → xs ≡ ys
  one_list xs ys a b same =
      rise_unique o (λ x y e. apart x y (eq_Equal (R x y) e)) xs ys a b (λ k. has_same xs k ∙ (same k ∙ sym (has_same ys k)))

  pub sorted_is : (xs ns : List ℕ) → IsStrictlySortedBy R xs → ((n : ℕ) → has xs n ≡ has ns n) → xs ≡ sorted_by R ns
  sorted_is xs ns a same = one_list xs (sorted_by R ns) a (sorted_rises ns) (λ n. same n ∙ sym (has_sorted ns n))

-- ---- the numbers of records

pub has_numbers : {X : Type 0} (number : X → ℕ) (rows : List X) (n : ℕ) → has (map number rows) n ≡ is_some (lookup number n rows)
has_numbers number [] n = refl
has_numbers number (x ∷ xs) n =
    ⊎_elim
    (λ (k : eqb (number x) n ≡ true). rw k refl)
    (λ (k : eqb (number x) n ≡ false). rw k (has_numbers number xs n))
    (cases_Bool (eqb (number x) n))

and_true : (b : Bool) → (b && true) ≡ b
and_true true = refl
and_true false = refl

there_by : {X Y : Type 0} (test : Y → Bool) (f : X → Y) (o : Option X) → (passes test (option_map f o) && is_some o) ≡ passes test (option_map f o)
there_by test f None = refl
there_by test f (Some x) = and_true (test (f x))

there : {X : Type 0} (test : X → Bool) (o : Option X) → (passes test o && is_some o) ≡ passes test o
there test None = refl
there test (Some x) = and_true (test x)

module _ (q : QueryTree) (c : Content) (texts : ℕ → MessageTexts) (n : ℕ) where
  shown_there : (kind : Kind) → (shows_of kind q c texts n && has (numbers_of kind c) n) ≡ shows_of kind q c texts n
  shown_there OfEmails =
      ap (λ b. shows_of OfEmails q c texts n && b) (has_numbers email_number c.emails n)
      ∙ there_by (λ s. shows_email q texts s) (email_in_thread c.emails) (lookup email_number n c.emails)
  shown_there OfMailboxes =
      ap (λ b. shows_of OfMailboxes q c texts n && b) (has_numbers mailbox_number c.mailboxes n)
      ∙ there (λ m. holds OfMailboxes (AMailbox m) q.filter) (lookup mailbox_number n c.mailboxes)
  shown_there OfThreads = refl

  match_there : (kind : Kind) → (is_match (record q { kind = kind }) c texts n && has (numbers_of kind c) n) ≡ is_match (record q { kind = kind }) c texts n
  match_there OfEmails =
      ap (λ b. is_match (record q { kind = OfEmails }) c texts n && b) (has_numbers email_number c.emails n)
      ∙ there_by (λ s. holds OfEmails (AnEmail texts s) q.filter) (email_in_thread c.emails) (lookup email_number n c.emails)
  match_there OfMailboxes =
      ap (λ b. is_match (record q { kind = OfMailboxes }) c texts n && b) (has_numbers mailbox_number c.mailboxes n)
      ∙ there (λ m. holds OfMailboxes (AMailbox m) q.filter) (lookup mailbox_number n c.mailboxes)
  match_there OfThreads = refl

module _ (q : QueryTree) (c : Content) where
  pub total : IsTotalOrder (order_of q c)
  total = numbers_total q.kind q.order c

  pub apart : (a b : ℕ) → order_of q c a b ≡ Equal → a ≡ b
  apart = numbers_apart q.kind q.order c

  module _ (texts : ℕ → MessageTexts) where
    pub result_has : (n : ℕ) → has (result_list q c texts) n ≡ shows q c texts n
    result_has n =
        has_sorted total apart (filter (shows q c texts) (numbers_of q.kind c)) n
        ∙ (has-filter (shows q c texts) (numbers_of q.kind c) n ∙ shown_there q c texts n q.kind)

    pub result_rises : IsStrictlySortedBy (order_of q c) (result_list q c texts)
    result_rises = sorted_rises total apart (filter (shows q c texts) (numbers_of q.kind c))

    pub matches_have : (n : ℕ) → has (matches_list q c texts) n ≡ is_match q c texts n
    matches_have n =
        has_sorted total apart (filter (is_match q c texts) (numbers_of q.kind c)) n
        ∙ (has-filter (is_match q c texts) (numbers_of q.kind c) n ∙ match_there q c texts n q.kind)

    pub matches_rise : IsStrictlySortedBy (order_of q c) (matches_list q c texts)
    matches_rise = sorted_rises total apart (filter (is_match q c texts) (numbers_of q.kind c))

    -- a list that rises and has what is shown is the result list
    pub is_result_list : (list : List ℕ) → IsStrictlySortedBy (order_of q c) list → ((n : ℕ) → has list n ≡ shows q c texts n) → list ≡ result_list q c texts
    is_result_list list rises exactly =
        one_list total apart list (result_list q c texts) rises result_rises (λ n. exactly n ∙ sym (result_has n))

    -- a list that rises and has what matches is the list of matches
    pub is_matches_list : (list : List ℕ) → IsStrictlySortedBy (order_of q c) list → ((n : ℕ) → has list n ≡ is_match q c texts n) → list ≡ matches_list q c texts
    is_matches_list list rises exactly =
        one_list total apart list (matches_list q c texts) rises matches_rise (λ n. exactly n ∙ sym (matches_have n))

pub is_the_result : IsTheResult
is_the_result q c texts = record { rises = result_rises q c texts; exactly = result_has q c texts }

pub there_is_one : ThereIsOneResult
there_is_one q c texts list is = is_result_list q c texts list is.rises is.exactly
