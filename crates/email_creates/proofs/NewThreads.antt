-- The new threads of a list of edits have the next numbers, in order.
use Rattle.std.proofs.Common.{◌≡◌, ℕ, ◌+◌, ◌<◌, ◌≤◌, Bool, true, false, not, cond, ◌||◌, ◌&&◌, eqb, List, [], ◌∷◌, ◌++◌, filter, is_some, Option, Some, None, refl, sym, ap, ◌∙◌, subst, arith, ⊎_elim, eqb-true, eq-eqb, true≢false, ◌⊎◌, inl, inr}
use Rattle.std.specs.List.{AllByRecursion}
use Rattle.std.specs.List.Sorted.{IsStrictlySortedBy}
use Rattle.std.specs.Ordering.{nat_cmp}
use Rattle.std.specs.declared.cmp.Ordering.TheVariants.{Less}
use Rattle.std.proofs.lemmas.List.Kept.{IsStrictlySortedBy-filter}
use Rattle.mail_records.specs.Contents.{Content, thread_at}
use Rattle.mail_records.specs.declared.edits.Edit.{Edit}
use Rattle.mail_records.specs.declared.edits.Edit.TheVariants.{PutEmail}
use Rattle.mail_records.specs.Edits.{named_thread}
use Rattle.mail_records.specs.declared.records.Email.{Email}
use Rattle.mail_counts.specs.Touched.{is_one_of, threads_named, touched_threads, with_number}
use Rattle.mail_counts.specs.TidyBut.{AreInTurn, AreNewThreadsNext, new_threads}
use Rattle.mail_counts.proofs.Sorted.{is_one_of-rising, rise-rising}

less_lt : (x y : ℕ) → nat_cmp x y ≡ Less → x < y
less_lt x y e = grind arith

or_cases : (a b : Bool) → (a || b) ≡ true → (a ≡ true) ⊎ (b ≡ true)
or_cases true b e = inl refl
or_cases false b e = inr e

or_right : (a b : Bool) → b ≡ true → (a || b) ≡ true
or_right true b e = refl
or_right false b e = e

above : (x n : ℕ) (xs : List ℕ) → AllByRecursion (λ y. nat_cmp x y ≡ Less) xs → is_one_of xs n ≡ true → x < n
above x n [] all e = absurd (true≢false (sym e))
above x n (y ∷ ys) all e =
    ⊎_elim
    (λ (same : eqb y n ≡ true). subst (λ k. x < k) (eqb-true y n same) (less_lt x y all.0))
    (λ (rest : is_one_of ys n ≡ true). above x n ys all.1 rest)
    (or_cases (eqb y n) (is_one_of ys n) e)

own : (x : ℕ) (xs : List ℕ) → is_one_of (x ∷ xs) x ≡ true
own x xs = let e : eqb x x ≡ true = eq-eqb x x refl in rw e refl

pub in_turn : (xs : List ℕ) (a b : ℕ) → IsStrictlySortedBy nat_cmp xs → ((n : ℕ) → is_one_of xs n ≡ true → (a ≤ n) × (n < b))
    → ((n : ℕ) → a ≤ n → n < b → is_one_of xs n ≡ true) → AreInTurn a xs
unfolding IsStrictlySortedBy
in_turn [] a b rise within all = tt
in_turn (x ∷ xs) a b rise within all =
    let low = within x (own x xs) in
    let first : x ≡ a =
    ⊎_elim
    (λ (same : eqb x a ≡ true). eqb-true x a same)
    (λ (rest : is_one_of xs a ≡ true). let gt = above x a xs rise.0 rest in absurd (omega (arith, gt, low)))
    (or_cases (eqb x a) (is_one_of xs a) (all a (omega arith) (omega (arith, low)))) in (
      first,
      in_turn xs (a + 1) b rise.1
          (λ n is. let up = above x n xs rise.0 is in let in_it = within n (or_right (eqb x n) (is_one_of xs n) is) in (omega (arith, up, first), in_it.1))
          (λ n le lt.
          ⊎_elim
          (λ (same : eqb x n ≡ true). let e = eqb-true x n same in absurd (omega (arith, e, first, le)))
          (λ (rest : is_one_of xs n ≡ true). rest)
          (or_cases (eqb x n) (is_one_of xs n) (all n (omega arith) lt))),
    )

one_kept : (p : ℕ → Bool) (xs : List ℕ) (n : ℕ) → is_one_of (filter p xs) n ≡ (p n && is_one_of xs n)
one_kept p [] n = none (p n)
  where
    none : (b : Bool) → false ≡ (b && false)
    none true = refl
    none false = refl
one_kept p (x ∷ xs) n = step (p x) refl (one_kept p xs n)
  where
    and_or : (a b c : Bool) → (b ≡ true → a ≡ true) → (b || (a && c)) ≡ (a && (b || c))
    and_or true b c h = refl
    and_or false true c h = absurd (true≢false (sym (h refl)))
    and_or false false c h = refl

    skip : (a b c : Bool) → (b ≡ true → a ≡ false) → (a && c) ≡ (a && (b || c))
    skip false b c h = refl
    skip true true c h = absurd (true≢false (h refl))
    skip true false c h = refl

    step : (b : Bool) → p x ≡ b → is_one_of (filter p xs) n ≡ (p n && is_one_of xs n)
        → is_one_of (cond b (x ∷ filter p xs) (filter p xs)) n ≡ (p n && (eqb x n || is_one_of xs n))
    step true e rec =
        ap (λ c. eqb x n || c) rec
        ∙ and_or (p n) (eqb x n) (is_one_of xs n) (λ same. sym (ap p (eqb-true x n same)) ∙ e)
    step false e rec =
        rec ∙ skip (p n) (eqb x n) (is_one_of xs n) (λ same. sym (ap p (eqb-true x n same)) ∙ e)

and_true : (a b : Bool) → (a && b) ≡ true → (a ≡ true) × (b ≡ true)
and_true true b e = (refl, e)
and_true false b e = absurd (true≢false (sym e))

both_true : (a b : Bool) → a ≡ true → b ≡ true → (a && b) ≡ true
both_true a b e f = rw (e, f) refl

not_there : (o : Bool) → not o ≡ true → o ≡ false
not_there true e = absurd (true≢false (sym e))
not_there false e = refl

-- The threads that edits name are there or are new ones below b, and each new one below b is named.
pub record AreNamed (c : Content) (edits : List Edit) (b : ℕ) : Type 0 where
  pub from : (n : ℕ) → is_one_of (threads_named edits) n ≡ true → (is_some (thread_at c n) ≡ true) ⊎ ((c.next_thread ≤ n) × (n < b))
  pub to : (n : ℕ) → c.next_thread ≤ n → n < b → is_one_of (threads_named edits) n ≡ true

pub threads_next : (c : Content) (edits : List Edit) (b : ℕ) → ((n : ℕ) → c.next_thread ≤ n → is_some (thread_at c n) ≡ false) → AreNamed c edits b → AreNewThreadsNext c edits
threads_next c edits b new named =
    let p : ℕ → Bool = λ t. not (is_some (thread_at c t)) in
    in_turn (new_threads c edits) c.next_thread b (IsStrictlySortedBy-filter nat_cmp p (touched_threads edits) (rise-rising (threads_named edits)))
    (λ n is.
    let both = and_true (p n) (is_one_of (touched_threads edits) n) (sym (one_kept p (touched_threads edits) n) ∙ is) in
    ⊎_elim
    (λ (there : is_some (thread_at c n) ≡ true). absurd (true≢false (sym there ∙ not_there (is_some (thread_at c n)) both.0)))
    (λ (r : (c.next_thread ≤ n) × (n < b)). r)
    (named.from n (sym (is_one_of-rising (threads_named edits) n) ∙ both.1)))
    (λ n le lt.
    one_kept p (touched_threads edits) n
    ∙ both_true (p n) (is_one_of (touched_threads edits) n) (ap not (new n le)) (is_one_of-rising (threads_named edits) n ∙ named.to n le lt))

-- ---- one more email

pub named_push : (edits : List Edit) (e : Email) → threads_named (edits ++ PutEmail e false ∷ []) ≡ threads_named edits ++ e.thread ∷ []
named_push [] e = refl
named_push (x ∷ edits) e = ap (with_number (named_thread x)) (named_push edits e) ∙ with_push (named_thread x) (threads_named edits) e.thread
  where
    with_push : (o : Option ℕ) (ns : List ℕ) (t : ℕ) → with_number o (ns ++ t ∷ []) ≡ with_number o ns ++ t ∷ []
    with_push None ns t = refl
    with_push (Some n) ns t = refl

pub one_push : (ns : List ℕ) (t n : ℕ) → is_one_of (ns ++ t ∷ []) n ≡ (is_one_of ns n || eqb t n)
one_push [] t n = or_false (eqb t n)
  where
    or_false : (b : Bool) → (b || false) ≡ (false || b)
    or_false true = refl
    or_false false = refl
one_push (x ∷ ns) t n = ap (λ b. eqb x n || b) (one_push ns t n) ∙ or_assoc (eqb x n) (is_one_of ns n) (eqb t n)
  where
    or_assoc : (a b c : Bool) → (a || (b || c)) ≡ ((a || b) || c)
    or_assoc true b c = refl
    or_assoc false b c = refl
