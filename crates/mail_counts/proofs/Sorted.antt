-- Items by an order, each once.
use Rattle.std.proofs.Common.{◌≡◌, ℕ, ◌+◌, ◌<◌, ◌≤◌, Bool, true, false, ◌||◌, ◌&&◌, cond, eqb, ltb, List, [], ◌∷◌, map, filter, length, get_or, zero, suc, refl, sym, ap, ap₂, ◌∙◌, arith, ⊎_elim, IsPermutation, eq-eqb, ne_eqb}
use Rattle.std.specs.List.{AllByRecursion, list_any, dedup, dedup_from}
use Rattle.std.specs.List.Sorted.{IsBinarySearchResult, IsSorted, IsStrictlySortedBy}
use Rattle.std.specs.Result.{is_ok}
use Rattle.std.specs.declared.result.Result.{Result}
use Rattle.std.specs.declared.result.Result.TheVariants.{Ok, Err}
use Rattle.std.specs.declared.cmp.Ordering.{Ordering}
use Rattle.std.specs.declared.cmp.Ordering.TheVariants.{Less, Equal, Greater}
use Rattle.std.specs.Ordering.{is_eq, eq_by_cmp, ordering_reverse, match_ordering, nat_cmp}
use Rattle.std.specs.Cmp.{IsTotalOrder, unsigned_tied, nat_cmp_total}
use Rattle.std.proofs.lemmas.Bool.{cases_Bool, ltb-false, ltb-true, true≢false}
use Rattle.std.proofs.lemmas.List.Kept.{IsStrictlySortedBy-filter, IsStrictlySortedBy-dedup}
use Rattle.std.proofs.lemmas.List.Sorted.{list_any-IsPermutation, searched}
use Rattle.std.proofs.lemmas.Map.Keys.{non_decreasing_from_sorted}
use Rattle.mail_records.specs.Orders.{has_by}
use Rattle.mail_records.specs.OrderSteps.{put_in}
use Rattle.mail_records.proofs.Rising.{all_map, has-filter, has-put, rise-put}
use Rattle.mail_records.proofs.KeyTables.{nat_equal}
use Rattle.mail_records.proofs.Unique.{rise_unique}
use Rattle.mail_counts.specs.Counts.{each_once}
use Rattle.mail_counts.specs.Touched.{is_one_of, rising, sorted_once}

or_twice : (a c : Bool) → (a || c) ≡ (a || (a || c))
or_twice true c = refl
or_twice false c = refl

eq_Equal : (r : Ordering) → is_eq r ≡ true → r ≡ Equal
eq_Equal Less e = absurd (true≢false (sym e))
eq_Equal Equal e = refl
eq_Equal Greater e = absurd (true≢false (sym e))

-- ---- sorted, each once

module _ {K : Type 0} {R : K → K → Ordering} (o : IsTotalOrder R) where
  pub rise-sorted_once : (xs : List K) → IsStrictlySortedBy R (sorted_once R xs)
  unfolding IsStrictlySortedBy
  rise-sorted_once [] = tt
  rise-sorted_once (x ∷ xs) = rise-put o x (sorted_once R xs) (rise-sorted_once xs)

  pub has-sorted_once : (k : K) (xs : List K) → has_by R k (sorted_once R xs) ≡ has_by R k xs
  has-sorted_once k [] = refl
  has-sorted_once k (x ∷ xs) = has-put o x k (sorted_once R xs) ∙ ap (λ b. is_eq (R x k) || b) (has-sorted_once k xs)

  module _ (one : (a b : K) → is_eq (R a b) ≡ true → a ≡ b) where
    -- a list that rises and has the same items is the sorted one
    pub sorted_once-is : (xs ys : List K) → IsStrictlySortedBy R ys → ((k : K) → has_by R k ys ≡ has_by R k xs) → ys ≡ sorted_once R xs
    sorted_once-is xs ys rise same = rise_unique o one ys (sorted_once R xs) rise (rise-sorted_once xs) (λ k. same k ∙ sym (has-sorted_once k xs))

    -- lists with the same items are the same when sorted
    pub sorted_once-same : (xs ys : List K) → ((k : K) → has_by R k xs ≡ has_by R k ys) → sorted_once R xs ≡ sorted_once R ys
    sorted_once-same xs ys same = sorted_once-is ys (sorted_once R xs) (rise-sorted_once xs) (λ k. has-sorted_once k xs ∙ same k)

    -- what passes a test is sorted alike before and after
    pub sorted_once-filter : (p : K → Bool) (xs : List K) → filter p (sorted_once R xs) ≡ sorted_once R (filter p xs)
    sorted_once-filter p xs =
        sorted_once-is (filter p xs) (filter p (sorted_once R xs)) (IsStrictlySortedBy-filter R p (sorted_once R xs) (rise-sorted_once xs))
        (λ k. has-filter R p k (λ x e. ap p (one x k e)) (sorted_once R xs)
        ∙ (ap (λ b. p k && b) (has-sorted_once k xs) ∙ sym (has-filter R p k (λ x e. ap p (one x k e)) xs)))

    module _ {E : K → K → Bool} (ties : (x y : K) → E x y ≡ eq_by_cmp R x y) where
      has_from : (k y : K) (xs : List K) → has_by R k (dedup_from E y xs) ≡ (is_eq (R y k) || has_by R k xs)
      has_from k y [] = refl
      has_from k y (x ∷ xs) =
          ⊎_elim
          (λ (t : E x y ≡ true).
          let same : R x k ≡ R y k = o.congr x y k (eq_Equal (R x y) (sym (ties x y) ∙ t)) in
          rw t (has_from k y xs ∙ (or_twice (is_eq (R y k)) (has_by R k xs) ∙ ap (λ r. is_eq (R y k) || (is_eq r || has_by R k xs)) (sym same))))
          (λ (t : E x y ≡ false). rw t (ap (λ b. is_eq (R y k) || b) (has_from k x xs)))
          (cases_Bool (E x y))

      has_dedup : (k : K) (xs : List K) → has_by R k (dedup E xs) ≡ has_by R k xs
      has_dedup k [] = refl
      has_dedup k (x ∷ xs) = has_from k x xs

      -- what a sort and a `dedup` leave
      pub sorted_once-dedup : (xs sorted : List K) → IsPermutation xs sorted → IsSorted R sorted → dedup E sorted ≡ sorted_once R xs
      sorted_once-dedup xs sorted moved in_order =
          sorted_once-is xs (dedup E sorted) (IsStrictlySortedBy-dedup o ties sorted in_order)
          (λ k. has_dedup k sorted ∙ sym (list_any-IsPermutation (λ x. is_eq (R x k)) xs sorted moved))

-- what holds of all items holds of the sorted ones
module _ {A : Type 0} (R : A → A → Ordering) (P : A → Type 0) where
  all_put : (k : A) → P k → (xs : List A) → AllByRecursion P xs → AllByRecursion P (put_in R k xs)
  all_put k p [] all = (p, tt)
  all_put k p (x ∷ xs) all = step (R x k) (all_put k p xs all.1)
    where
      step : (r : Ordering) → AllByRecursion P (put_in R k xs) → AllByRecursion P (match_ordering r (x ∷ put_in R k xs) (x ∷ xs) (k ∷ x ∷ xs))
      step Less rec = (all.0, rec)
      step Equal rec = all
      step Greater rec = (p, all)

  pub all_sorted : (xs : List A) → AllByRecursion P xs → AllByRecursion P (sorted_once R xs)
  all_sorted [] all = tt
  all_sorted (x ∷ xs) all = all_put x all.0 (sorted_once R xs) (all_sorted xs all.1)

-- what a function makes of items that it doesn't reorder
module _ {A B : Type 0} (R : A → A → Ordering) (S : B → B → Ordering) (f : A → B) (P : A → Type 0)
    (same : (x y : A) → P x → P y → S (f x) (f y) ≡ R x y) where
  map_put : (k : A) → P k → (xs : List A) → AllByRecursion P xs → map f (put_in R k xs) ≡ put_in S (f k) (map f xs)
  map_put k p [] all = refl
  map_put k p (x ∷ xs) all =
      step (R x k) (map_put k p xs all.1)
      ∙ ap (λ r. match_ordering r (f x ∷ put_in S (f k) (map f xs)) (f x ∷ map f xs) (f k ∷ f x ∷ map f xs)) (sym (same x k all.0 p))
    where
      step : (r : Ordering) → map f (put_in R k xs) ≡ put_in S (f k) (map f xs)
          → map f (match_ordering r (x ∷ put_in R k xs) (x ∷ xs) (k ∷ x ∷ xs)) ≡ match_ordering r (f x ∷ put_in S (f k) (map f xs)) (f x ∷ map f xs) (f k ∷ f x ∷ map f xs)
      step Less rec = ap (λ zs. f x ∷ zs) rec
      step Equal rec = refl
      step Greater rec = refl

  pub map-sorted_once : (xs : List A) → AllByRecursion P xs → map f (sorted_once R xs) ≡ sorted_once S (map f xs)
  map-sorted_once [] all = refl
  map-sorted_once (x ∷ xs) all =
      map_put x all.0 (sorted_once R xs) (all_sorted R P xs all.1) ∙ ap (put_in S (f x)) (map-sorted_once xs all.1)

-- ---- numbers

pub has_number : (n : ℕ) (xs : List ℕ) → has_by nat_cmp n xs ≡ is_one_of xs n
has_number n [] = refl
has_number n (x ∷ xs) = ap₂ (λ a b. a || b) (unsigned_tied x n) (has_number n xs)

pub is_one_of-rising : (xs : List ℕ) (n : ℕ) → is_one_of (rising xs) n ≡ is_one_of xs n
is_one_of-rising xs n = sym (has_number n (rising xs)) ∙ (has-sorted_once nat_cmp_total n xs ∙ has_number n xs)

pub rise-rising : (xs : List ℕ) → IsStrictlySortedBy nat_cmp (rising xs)
rise-rising xs = rise-sorted_once nat_cmp_total xs

pub rising-same : (xs ys : List ℕ) → ((n : ℕ) → is_one_of xs n ≡ is_one_of ys n) → rising xs ≡ rising ys
rising-same xs ys same = sorted_once-same nat_cmp_total nat_equal xs ys (λ n. has_number n xs ∙ (same n ∙ sym (has_number n ys)))

eqb_ties : (x y : ℕ) → eqb x y ≡ eq_by_cmp nat_cmp x y
eqb_ties x y = sym (unsigned_tied x y)

pub rising-dedup : (xs sorted : List ℕ) → IsPermutation xs sorted → IsSorted nat_cmp sorted → dedup eqb sorted ≡ rising xs
rising-dedup xs sorted moved in_order = sorted_once-dedup nat_cmp_total nat_equal eqb_ties xs sorted moved in_order

-- numbers that rise and are the same numbers
pub rising-is : (xs ys : List ℕ) → IsStrictlySortedBy nat_cmp ys → ((n : ℕ) → is_one_of ys n ≡ is_one_of xs n) → ys ≡ rising xs
rising-is xs ys rise same = sorted_once-is nat_cmp_total nat_equal xs ys rise (λ n. has_number n ys ∙ (same n ∙ sym (has_number n xs)))

-- ---- how many there are

above_none : (n : ℕ) (xs : List ℕ) → AllByRecursion (λ y. nat_cmp n y ≡ Less) xs → has_by nat_cmp n xs ≡ false
above_none n [] all = refl
above_none n (x ∷ xs) all =
    let away : is_eq (nat_cmp x n) ≡ false = ap is_eq (nat_cmp_total.antisymm x n ∙ ap ordering_reverse all.0) in rw away (above_none n xs all.1)

length_put : (n : ℕ) (xs : List ℕ) → IsStrictlySortedBy nat_cmp xs → length (put_in nat_cmp n xs) ≡ cond (has_by nat_cmp n xs) (length xs) (suc (length xs))
unfolding IsStrictlySortedBy
length_put n [] rise = refl
length_put n (x ∷ xs) rise = step (nat_cmp x n) refl (length_put n xs rise.1)
  where
    counted : (b : Bool) → suc (cond b (length xs) (suc (length xs))) ≡ cond b (suc (length xs)) (suc (suc (length xs)))
    counted true = refl
    counted false = refl

    step : (r : Ordering) → nat_cmp x n ≡ r → length (put_in nat_cmp n xs) ≡ cond (has_by nat_cmp n xs) (length xs) (suc (length xs))
        → length (match_ordering r (x ∷ put_in nat_cmp n xs) (x ∷ xs) (n ∷ x ∷ xs)) ≡ cond (is_eq r || has_by nat_cmp n xs) (suc (length xs)) (suc (suc (length xs)))
    step Less e rec = ap suc rec ∙ counted (has_by nat_cmp n xs)
    step Equal e rec = refl
    step Greater e rec =
        let less : nat_cmp n x ≡ Less = nat_cmp_total.antisymm n x ∙ ap ordering_reverse e in
        let none : has_by nat_cmp n xs ≡ false = above_none n xs (all_map (λ y. nat_cmp x y ≡ Less) (λ y. nat_cmp n y ≡ Less) (λ y l. nat_cmp_total.trans n x y less l) xs rise.0) in
        ap (λ b. cond b (suc (length xs)) (suc (suc (length xs)))) (sym none)

-- as many as when each is taken once
pub length-rising : (xs : List ℕ) → length (rising xs) ≡ length (each_once xs)
length-rising [] = refl
length-rising (x ∷ xs) =
    length_put x (rising xs) (rise-rising xs)
    ∙ (ap₂ (λ b n. cond b n (suc n)) (has_number x (rising xs) ∙ is_one_of-rising xs x) (length-rising xs)
    ∙ taken (is_one_of xs x))
  where
    taken : (b : Bool) → cond b (length (each_once xs)) (suc (length (each_once xs))) ≡ length (cond b (each_once xs) (x ∷ each_once xs))
    taken true = refl
    taken false = refl

-- ---- a number found by halving

found_one : (xs : List ℕ) (n i : ℕ) → i < length xs → get_or xs i 0 ≡ n → is_one_of xs n ≡ true
found_one [] n i lt e = absurd (omega arith)
found_one (x ∷ xs) n zero lt e = let t : eqb x n ≡ true = eq-eqb x n e in rw t refl
found_one (x ∷ xs) n (suc i) lt e = or_right (eqb x n) (is_one_of xs n) (found_one xs n i (omega arith) e)
  where
    or_right : (a b : Bool) → b ≡ true → (a || b) ≡ true
    or_right true b h = refl
    or_right false b h = h

found_none : (xs : List ℕ) (n : ℕ) → ((k : ℕ) → k < length xs → get_or xs k 0 ≡ n → ⊥) → is_one_of xs n ≡ false
found_none [] n none = refl
found_none (x ∷ xs) n none =
    let away : eqb x n ≡ false = ne_eqb x n (λ e. none 0 (omega arith) e) in
    rw away (found_none xs n (λ k lt e. none (suc k) (omega arith) e))

pub one_searched : (xs : List ℕ) (n : ℕ) (r : Result ℕ ℕ) → IsStrictlySortedBy nat_cmp xs → IsBinarySearchResult (λ y. nat_cmp y n) xs r → is_ok r ≡ is_one_of xs n
one_searched xs n (Ok i) rise position =
    let s = searched xs n (Ok i) position (λ a b le lt. non_decreasing_from_sorted xs rise a b 0 le lt) in sym (found_one xs n i s.0 s.1)
one_searched xs n (Err i) rise position =
    let s = searched xs n (Err i) position (λ a b le lt. non_decreasing_from_sorted xs rise a b 0 le lt) in
    sym (found_none xs n
    (λ k lt e. ⊎_elim
    (λ (t : ltb k i ≡ true). let below = s.1 k (ltb-true k i t) in omega (arith, e))
    (λ (t : ltb k i ≡ false). let above = s.2 k (ltb-false k i t) lt in omega (arith, e))
    (cases_Bool (ltb k i))))
