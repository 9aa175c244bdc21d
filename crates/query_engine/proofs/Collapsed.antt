-- The result list of a query is the list of what matches, without the emails of a thread that has an
-- earlier one where threads are collapsed.
use Rattle.std.proofs.Common.{◌≡◌, ℕ, Bool, true, false, not, ◌&&◌, ◌||◌, if◌then◌else◌, eqb, eqb-true, eq-eqb, List, [], ◌∷◌, ◌++◌, map, filter, Option, Some, None, option_map, refl, sym, ap, ap₂, ◌∙◌, subst, append_assoc, ⊎_elim}
use Rattle.std.specs.List.{AllByRecursion, list_any}
use Rattle.std.specs.List.Sorted.{IsStrictlySortedBy}
use Rattle.std.specs.Option.{option_cmp, unwrap_or}
use Rattle.std.specs.Ordering.{is_lt, nat_cmp, ordering_reverse, ordering_then}
use Rattle.std.specs.Cmp.{IsTotalOrder}
use Rattle.std.specs.declared.cmp.Ordering.{Ordering}
use Rattle.std.specs.declared.cmp.Ordering.TheVariants.{Less}
use Rattle.std.proofs.lemmas.Bool.{and_parts, cases_Bool, true≢false}
use Rattle.std.proofs.lemmas.Cmp.{tied_itself}
use Rattle.jm_base.specs.Splices.{has}
use Rattle.jm_base.specs.declared.identifiers.Kind.{Kind}
use Rattle.jm_base.specs.declared.identifiers.Kind.TheVariants.{Mailbox as OfMailboxes, Email as OfEmails, Thread as OfThreads}
use Rattle.jm_base.proofs.Spliced.{has-filter, rising-filter}
use Rattle.jm_json.specs.Tree.{Tree}
use Rattle.mail_records.specs.Contents.{Content, email_at, email_number}
use Rattle.mail_records.specs.Tables.{IsTable}
use Rattle.mail_records.specs.declared.records.Email.{Email}
use Rattle.mail_records.proofs.KeyTables.{lookup_number}
use Rattle.method_args.specs.Arguments.{passes}
use Rattle.filter_terms.specs.Targets.{EmailInThread, of_thread, email_in_thread_at, email_in_thread}
use Rattle.filter_terms.specs.Texts.{MessageTexts}
use Rattle.filter_terms.proofs.Lists.{In, any_found, any_here, found_in, in_found, in_kept, of_kept, same_tests}
use Rattle.sort_terms.specs.Comparators.{emails_cmp}
use Rattle.sort_terms.specs.Forms.{comparators_of}
use Rattle.query_engine.specs.Laws.{CollapsingTakesOut}
use Rattle.query_engine.specs.Queries.{in_same_thread, email_before, email_matches, is_hidden, order_of, result_list, shows_email}
use Rattle.query_engine.specs.Threads.{first_of_threads, thread_of}
use Rattle.query_engine.specs.Views.{QueryTree}
use Rattle.query_engine.specs.Walks.{collapses, is_match, matches_list}
use Rattle.query_engine.proofs.Results.{is_result_list, matches_have, matches_rise, total}

-- ---- over any order and any threads

or_false : (b : Bool) → (b || false) ≡ b
or_false true = refl
or_false false = refl

or_or : (a b c : Bool) → ((a || b) || c) ≡ (a || (b || c))
or_or true b c = refl
or_or false b c = refl

any_append : {X : Type 0} (p : X → Bool) (xs ys : List X) → list_any p (xs ++ ys) ≡ (list_any p xs || list_any p ys)
any_append p [] ys = refl
any_append p (x ∷ xs) ys = ap (λ b. p x || b) (any_append p xs ys) ∙ sym (or_or (p x) (list_any p xs) (list_any p ys))

and_false : (b : Bool) → (b && false) ≡ false
and_false true = refl
and_false false = refl

and_true : (b : Bool) → (b && true) ≡ b
and_true true = refl
and_true false = refl

-- an earlier number has the thread of this one
abbrev pub has_earlier : (ℕ → ℕ → Ordering) → (ℕ → ℕ) → List ℕ → ℕ → Bool
has_earlier R f ms n = list_any (λ y. eqb (f y) (f n) && is_lt (R y n)) ms

module _ (R : ℕ → ℕ → Ordering) (o : IsTotalOrder R) where
  at_middle : (P : ℕ → Type 0) (xs : List ℕ) (n : ℕ) (ys : List ℕ) → AllByRecursion P (xs ++ n ∷ ys) → P n
  at_middle P [] n ys all = all.0
  at_middle P (x ∷ xs) n ys all = at_middle P xs n ys all.1

  below_middle : (xs : List ℕ) (n : ℕ) (ys : List ℕ) → IsStrictlySortedBy R (xs ++ n ∷ ys) → AllByRecursion (λ y. R y n ≡ Less) xs
  unfolding IsStrictlySortedBy
  below_middle [] n ys rise = tt
  below_middle (x ∷ xs) n ys rise = (at_middle (λ y. R x y ≡ Less) xs n ys rise.0, below_middle xs n ys rise.1)

  above_middle : (xs : List ℕ) (n : ℕ) (ys : List ℕ) → IsStrictlySortedBy R (xs ++ n ∷ ys) → AllByRecursion (λ y. R n y ≡ Less) ys
  unfolding IsStrictlySortedBy
  above_middle [] n ys rise = rise.0
  above_middle (x ∷ xs) n ys rise = above_middle xs n ys rise.1

  module _ (f : ℕ → ℕ) (n : ℕ) where
    before_it : (xs : List ℕ) → AllByRecursion (λ y. R y n ≡ Less) xs → has_earlier R f xs n ≡ has (map f xs) (f n)
    before_it [] all = refl
    before_it (x ∷ xs) all =
        ap₂ (λ a b. a || b) (ap (λ r. eqb (f x) (f n) && is_lt r) all.0 ∙ and_true (eqb (f x) (f n))) (before_it xs all.1)

    after_it : (xs : List ℕ) → AllByRecursion (λ y. R n y ≡ Less) xs → has_earlier R f xs n ≡ false
    after_it [] all = refl
    after_it (x ∷ xs) all =
        let away : is_lt (R x n) ≡ false = ap is_lt (o.antisymm x n ∙ ap ordering_reverse all.0) in
        ap₂ (λ a b. a || b) (ap (λ r. eqb (f x) (f n) && r) away ∙ and_false (eqb (f x) (f n))) (after_it xs all.1)

    at_it : (xs ys : List ℕ) → IsStrictlySortedBy R (xs ++ n ∷ ys) → has_earlier R f (xs ++ n ∷ ys) n ≡ has (map f xs) (f n)
    at_it xs ys rise =
        let p : ℕ → Bool = λ y. eqb (f y) (f n) && is_lt (R y n) in
        let itself : p n ≡ false = ap (λ r. eqb (f n) (f n) && is_lt r) (tied_itself o n) ∙ and_false (eqb (f n) (f n)) in
        any_append p xs (n ∷ ys)
        ∙ (ap₂ (λ a b. a || b) (before_it xs (below_middle xs n ys rise)) (ap₂ (λ a b. a || b) itself (after_it ys (above_middle xs n ys rise)))
        ∙ or_false (has (map f xs) (f n)))

  module _ (c : Content) where
    abbrev f : ℕ → ℕ
    f n = thread_of c n

    more_threads : (front : List ℕ) (n t : ℕ) → has (map f (front ++ n ∷ [])) t ≡ (has (map f front) t || eqb (f n) t)
    more_threads [] n t = or_false (eqb (f n) t)
    more_threads (x ∷ xs) n t = ap (λ b. eqb (f x) t || b) (more_threads xs n t) ∙ sym (or_or (eqb (f x) t) (has (map f xs) t) (eqb (f n) t))

    or_turned : (a b : Bool) → (a || b) ≡ (b || a)
    or_turned true true = refl
    or_turned true false = refl
    or_turned false true = refl
    or_turned false false = refl

    known : (threads : List ℕ) (n t : ℕ) → has threads (f n) ≡ true → has threads t ≡ (has threads t || eqb (f n) t)
    known threads n t e =
        ⊎_elim
        (λ (k : eqb (f n) t ≡ true). let h : has threads t ≡ true = ap (has threads) (sym (eqb-true (f n) t k)) ∙ e in h ∙ sym (ap (λ b. b || eqb (f n) t) h))
        (λ (k : eqb (f n) t ≡ false). sym (ap (λ b. has threads t || b) k ∙ or_false (has threads t)))
        (cases_Bool (eqb (f n) t))

    kept : (all front rest threads : List ℕ) → all ≡ front ++ rest → IsStrictlySortedBy R all → ((t : ℕ) → has threads t ≡ has (map f front) t)
        → first_of_threads c threads rest ≡ filter (λ n. not (has_earlier R f all n)) rest
    kept all front [] threads is rise same = refl
    kept all front (n ∷ ns) threads is rise same =
        let here : has_earlier R f all n ≡ has threads (f n) =
        ap (λ ms. has_earlier R f ms n) is ∙ (at_it f n front ns (subst (IsStrictlySortedBy R) is rise) ∙ sym (same (f n))) in
        let on : all ≡ (front ++ n ∷ []) ++ ns = is ∙ sym (append_assoc front (n ∷ []) ns) in
        ⊎_elim
        (λ (k : has threads (f n) ≡ true).
        let now : has_earlier R f all n ≡ true = here ∙ k in
        rw (k, now)
        (kept all (front ++ n ∷ []) ns threads on rise (λ t. known threads n t k ∙ (ap (λ b. b || eqb (f n) t) (same t) ∙ sym (more_threads front n t)))))
        (λ (k : has threads (f n) ≡ false).
        let now : has_earlier R f all n ≡ false = here ∙ k in
        rw (k, now)
        (ap (λ zs. n ∷ zs)
        (kept all (front ++ n ∷ []) ns (f n ∷ threads) on rise (λ t. or_turned (eqb (f n) t) (has threads t) ∙ (ap (λ b. b || eqb (f n) t) (same t) ∙ sym (more_threads front n t))))))
        (cases_Bool (has threads (f n)))

    pub firsts : (all : List ℕ) → IsStrictlySortedBy R all → first_of_threads c [] all ≡ filter (λ n. not (has_earlier R f all n)) all
    firsts all rise = kept all [] all [] refl rise (λ t. refl)

-- ---- emails

seen_number : (c : Content) (n : ℕ) (e : Email) → email_at c n ≡ Some e → email_in_thread_at c.emails n ≡ Some (email_in_thread c.emails e)
seen_number c n e is = ap (option_map (email_in_thread c.emails)) is

pub thread_number : (c : Content) (n : ℕ) (e : Email) → email_at c n ≡ Some e → thread_of c n ≡ e.thread
thread_number c n e is = ap (λ (o : Option Email). unwrap_or (option_map (λ (x : Email). x.thread) o) 0) is

found_of : {X : Type 0} (test : EmailInThread → Bool) (f : X → EmailInThread) (o : Option X) → passes test (option_map f o) ≡ true → (x : X) × (o ≡ Some x) × (test (f x) ≡ true)
found_of test f None e = absurd (true≢false (sym e))
found_of test f (Some x) e = (x, refl, e)

-- what has the number is the number
has_it : (list : List ℕ) (n : ℕ) → has list n ≡ true → In n list
has_it list n h = let w = any_found (λ x. eqb x n) list h in subst (λ x. In x list) (eqb-true w.0 n w.2) w.1

it_has : (list : List ℕ) (n : ℕ) → In n list → has list n ≡ true
it_has list n i = any_here (λ x. eqb x n) list n i (eq-eqb n n refl)

module _ (filter_tree order : Tree) (collapse : Bool) (c : Content) (texts : ℕ → MessageTexts) (table : IsTable email_number c.emails) where
  abbrev q : QueryTree
  q = record { kind = OfEmails; filter = filter_tree; order = order; collapse = collapse }

  abbrev R : ℕ → ℕ → Ordering
  R = order_of q c

  abbrev th : ℕ → ℕ
  th n = thread_of c n

  order_at : (y n : ℕ) (a b : Email) → email_at c y ≡ Some a → email_at c n ≡ Some b
      → is_lt (R y n) ≡ email_before q (email_in_thread c.emails a) (email_in_thread c.emails b)
  order_at y n a b ya nb =
      let cs = comparators_of OfEmails order in
      let first : option_cmp (emails_cmp cs) (email_in_thread_at c.emails y) (email_in_thread_at c.emails n) ≡ emails_cmp cs (email_in_thread c.emails a) (email_in_thread c.emails b) =
      ap₂ (option_cmp (emails_cmp cs)) (seen_number c y a ya) (seen_number c n b nb) in
      let second : nat_cmp y n ≡ nat_cmp a.number b.number =
      ap₂ nat_cmp (sym (lookup_number email_number y c.emails a ya)) (sym (lookup_number email_number n c.emails b nb)) in
      ap₂ (λ r s. is_lt (ordering_then r s)) first second

  matches_at : (n : ℕ) (e : Email) → email_at c n ≡ Some e → is_match q c texts n ≡ email_matches q texts (email_in_thread c.emails e)
  matches_at n e is = ap (passes (λ s. email_matches q texts s)) (seen_number c n e is)

  same_seen : (e y : Email) → y.thread ≡ e.thread → email_in_thread c.emails y ≡ in_same_thread (email_in_thread c.emails e) y
  same_seen e y same = ap (λ t. record { email = y; thread = of_thread t c.emails }) same

  hidden_is : (n : ℕ) (e : Email) → email_at c n ≡ Some e → is_hidden q texts (email_in_thread c.emails e) ≡ has_earlier R th (matches_list q c texts) n
  hidden_is n e there = same_tests _ _ to from
    where
      to : is_hidden q texts (email_in_thread c.emails e) ≡ true → has_earlier R th (matches_list q c texts) n ≡ true
      to h =
          let w = any_found (λ y. email_matches q texts (in_same_thread (email_in_thread c.emails e) y) && email_before q (in_same_thread (email_in_thread c.emails e) y) (email_in_thread c.emails e)) (of_thread e.thread c.emails) h in
          let y : Email = w.0 in
          let both = and_parts _ _ w.2 in
          let own = of_kept (λ (x : Email). eqb x.thread e.thread) c.emails y w.1 in
          let same : y.thread ≡ e.thread = eqb-true y.thread e.thread own.1 in
          let found : email_at c y.number ≡ Some y = in_found email_number c.emails y table own.0 in
          let seen = same_seen e y same in
          let is : is_match q c texts y.number ≡ true = matches_at y.number y found ∙ (ap (email_matches q texts) seen ∙ both.0) in
          let among : In y.number (matches_list q c texts) = has_it (matches_list q c texts) y.number (matches_have q c texts y.number ∙ is) in
          let before : is_lt (R y.number n) ≡ true = order_at y.number n y e found there ∙ (ap (λ s. email_before q s (email_in_thread c.emails e)) seen ∙ both.1) in
          let threads : eqb (th y.number) (th n) ≡ true = eq-eqb (th y.number) (th n) (thread_number c y.number y found ∙ (same ∙ sym (thread_number c n e there))) in
          any_here (λ x. eqb (th x) (th n) && is_lt (R x n)) (matches_list q c texts) y.number among (rw (threads, before) refl)

      from : has_earlier R th (matches_list q c texts) n ≡ true → is_hidden q texts (email_in_thread c.emails e) ≡ true
      from h =
          let w = any_found (λ x. eqb (th x) (th n) && is_lt (R x n)) (matches_list q c texts) h in
          let both = and_parts _ _ w.2 in
          let is : is_match q c texts w.0 ≡ true = sym (matches_have q c texts w.0) ∙ it_has (matches_list q c texts) w.0 w.1 in
          let v = found_of (λ s. email_matches q texts s) (email_in_thread c.emails) (email_at c w.0) is in
          let y : Email = v.0 in
          let same : y.thread ≡ e.thread = sym (thread_number c w.0 y v.1) ∙ (eqb-true (th w.0) (th n) both.0 ∙ thread_number c n e there) in
          let seen = same_seen e y same in
          let match : email_matches q texts (in_same_thread (email_in_thread c.emails e) y) ≡ true = ap (email_matches q texts) (sym seen) ∙ v.2 in
          let before : email_before q (in_same_thread (email_in_thread c.emails e) y) (email_in_thread c.emails e) ≡ true =
          ap (λ s. email_before q s (email_in_thread c.emails e)) (sym seen) ∙ (sym (order_at w.0 n y e v.1 there) ∙ both.1) in
          any_here (λ x. email_matches q texts (in_same_thread (email_in_thread c.emails e) x) && email_before q (in_same_thread (email_in_thread c.emails e) x) (email_in_thread c.emails e)) (of_thread e.thread c.emails) y
          (in_kept (λ (x : Email). eqb x.thread e.thread) c.emails y (found_in email_number w.0 c.emails y v.1) (eq-eqb y.thread e.thread same)) (rw (match, before) refl)

  turned : (a b : Bool) → (a && b) ≡ (b && a)
  turned true true = refl
  turned true false = refl
  turned false true = refl
  turned false false = refl

  -- with collapse, an email is shown that matches and has no earlier one of its thread
  shown_first : collapse ≡ true → (n : ℕ) (o : Option Email) → email_at c n ≡ o
      → passes (λ s. shows_email q texts s) (option_map (email_in_thread c.emails) o) ≡ (not (has_earlier R th (matches_list q c texts) n) && passes (λ s. email_matches q texts s) (option_map (email_in_thread c.emails) o))
  shown_first on n None is = sym (and_false (not (has_earlier R th (matches_list q c texts) n)))
  shown_first on n (Some e) is =
      ap (λ b. email_matches q texts (email_in_thread c.emails e) && not (b && is_hidden q texts (email_in_thread c.emails e))) on
      ∙ (ap (λ b. email_matches q texts (email_in_thread c.emails e) && not b) (hidden_is n e is)
      ∙ turned (email_matches q texts (email_in_thread c.emails e)) (not (has_earlier R th (matches_list q c texts) n)))

  collapsed : collapse ≡ true → first_of_threads c [] (matches_list q c texts) ≡ result_list q c texts
  collapsed on =
      let all = matches_list q c texts in
      let keep : ℕ → Bool = λ n. not (has_earlier R th all n) in
      firsts R (total q c) c all (matches_rise q c texts)
      ∙ is_result_list q c texts (filter keep all) (rising-filter R keep all (matches_rise q c texts))
      (λ n. has-filter keep all n ∙ (ap (λ b. keep n && b) (matches_have q c texts n) ∙ sym (shown_first on n (email_at c n) refl)))

  shown_all : collapse ≡ false → (o : Option Email)
      → passes (λ s. email_matches q texts s) (option_map (email_in_thread c.emails) o) ≡ passes (λ s. shows_email q texts s) (option_map (email_in_thread c.emails) o)
  shown_all off None = refl
  shown_all off (Some e) =
      sym
      (ap (λ b. email_matches q texts (email_in_thread c.emails e) && not (b && is_hidden q texts (email_in_thread c.emails e))) off
      ∙ and_true (email_matches q texts (email_in_thread c.emails e)))

  whole : collapse ≡ false → matches_list q c texts ≡ result_list q c texts
  whole off =
      is_result_list q c texts (matches_list q c texts) (matches_rise q c texts) (λ n. matches_have q c texts n ∙ shown_all off (email_at c n))

  of_emails : (if collapse then first_of_threads c [] (matches_list q c texts) else matches_list q c texts) ≡ result_list q c texts
  of_emails =
      ⊎_elim (λ (on : collapse ≡ true). ap (λ b. if b then first_of_threads c [] (matches_list q c texts) else matches_list q c texts) on ∙ collapsed on)
      (λ (off : collapse ≡ false). ap (λ b. if b then first_of_threads c [] (matches_list q c texts) else matches_list q c texts) off ∙ whole off)
      (cases_Bool collapse)

abbrev IsRight : QueryTree → Content → (ℕ → MessageTexts) → Type 0
IsRight q c texts = (if collapses q then first_of_threads c [] (matches_list q c texts) else matches_list q c texts) ≡ result_list q c texts

right_of : (q : QueryTree) (c : Content) (texts : ℕ → MessageTexts) → IsTable email_number c.emails → (kind : Kind) → IsRight (record q { kind = kind }) c texts
right_of q c texts table OfEmails =
    ap (λ b. if b then first_of_threads c [] (matches_list (record q { kind = OfEmails }) c texts) else matches_list (record q { kind = OfEmails }) c texts) (and_true q.collapse)
    ∙ of_emails q.filter q.order q.collapse c texts table
right_of q c texts table OfMailboxes =
    ap (λ b. if b then first_of_threads c [] (matches_list (record q { kind = OfMailboxes }) c texts) else matches_list (record q { kind = OfMailboxes }) c texts) (and_false q.collapse)
right_of q c texts table OfThreads =
    ap (λ b. if b then first_of_threads c [] (matches_list (record q { kind = OfThreads }) c texts) else matches_list (record q { kind = OfThreads }) c texts) (and_false q.collapse)

-- the result list, by the list of what matches
pub result_is : (q : QueryTree) (c : Content) (texts : ℕ → MessageTexts) → IsTable email_number c.emails
    → (if collapses q then first_of_threads c [] (matches_list q c texts) else matches_list q c texts) ≡ result_list q c texts
result_is q c texts table = right_of q c texts table q.kind

pub collapsing : CollapsingTakesOut
collapsing q c texts k table =
    subst
    (λ kind. result_list (record q { kind = kind; collapse = true }) c texts
    ≡ first_of_threads c [] (result_list (record q { kind = kind; collapse = false }) c texts))
    (sym k)
    (sym (ap (first_of_threads c []) (sym (whole q.filter q.order false c texts table refl)) ∙ collapsed q.filter q.order true c texts table refl))
