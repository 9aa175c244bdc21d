-- Lists that rise by an order R: what a put, a removal and a part of them come to.
use Rattle.std.proofs.Common.{◌≡◌, ℕ, ◌+◌, ◌<◌, ◌≤◌, Bool, true, false, ◌||◌, ◌&&◌, not, List, [], ◌∷◌, ◌++◌, take, drop, insert, map, filter, length, get_or, zero, suc, refl, sym, ap, ap₂, ◌∙◌, subst, arith, take-append-drop, add-one, ⊎_elim}
use Rattle.std.specs.List.{AllByRecursion, remove}
use Rattle.std.specs.List.Sorted.{IsStrictlySortedBy, IsPartitionPoint}
use Rattle.std.specs.declared.cmp.Ordering.{Ordering}
use Rattle.std.specs.declared.cmp.Ordering.TheVariants.{Less, Equal, Greater}
use Rattle.std.specs.Ordering.{is_eq, is_lt, is_gt, ordering_reverse, match_ordering}
use Rattle.std.specs.Cmp.{IsTotalOrder}
use Rattle.std.proofs.lemmas.Bool.{cases_Bool, true≢false}
use Rattle.std.proofs.lemmas.List.{drop_more, drop_all, map-append}
use Rattle.std.proofs.lemmas.List.Kept.{IsStrictlySortedBy-filter}
use Rattle.mail_records.specs.Orders.{has_by}
use Rattle.mail_records.specs.OrderSteps.{IsPlaceBy, put_in, put_all_in, take_out, take_all_out}

or_swap : (a b c : Bool) → (a || (b || c)) ≡ (b || (a || c))
or_swap true true c = refl
or_swap true false c = refl
or_swap false true c = refl
or_swap false false c = refl

or_twice : (a c : Bool) → (a || c) ≡ (a || (a || c))
or_twice true c = refl
or_twice false c = refl

and_or : (a c : Bool) → (not a && c) ≡ (not a && (a || c))
and_or true c = refl
and_or false c = refl

or_and : (a b c : Bool) → (b ≡ true → a ≡ false) → (a || (not b && c)) ≡ (not b && (a || c))
or_and true true c h = absurd (true≢false (h refl))
or_and false true c h = refl
or_and true false c h = refl
or_and false false c h = refl

eq_Equal : (r : Ordering) → is_eq r ≡ true → r ≡ Equal
eq_Equal Less e = absurd (true≢false (sym e))
eq_Equal Equal e = refl
eq_Equal Greater e = absurd (true≢false (sym e))

lt_Less : (r : Ordering) → is_lt r ≡ true → r ≡ Less
lt_Less Less e = refl
lt_Less Equal e = absurd (true≢false (sym e))
lt_Less Greater e = absurd (true≢false (sym e))

gt_Greater : (r : Ordering) → is_lt r ≡ false → is_eq r ≡ false → r ≡ Greater
gt_Greater Less l e = absurd (true≢false l)
gt_Greater Equal l e = absurd (true≢false e)
gt_Greater Greater l e = refl

pub all_map : {A : Type 0} (P Q : A → Type 0) → ((x : A) → P x → Q x) → (xs : List A) → AllByRecursion P xs → AllByRecursion Q xs
all_map P Q f [] all = tt
all_map P Q f (x ∷ xs) all = (f x all.0, all_map P Q f xs all.1)

all_mapped : {E K : Type 0} (P : K → Type 0) (f : E → K) (es : List E) → AllByRecursion P (map f es) → AllByRecursion (λ e. P (f e)) es
all_mapped P f [] all = tt
all_mapped P f (e ∷ es) all = (all.0, all_mapped P f es all.1)

pub all_at : {A : Type 0} (P : A → Type 0) (xs : List A) → AllByRecursion P xs → (k : ℕ) (d : A) → k < length xs → P (get_or xs k d)
all_at P [] all k d lt = absurd (omega arith)
all_at P (x ∷ xs) all zero d lt = all.0
all_at P (x ∷ xs) all (suc k) d lt = all_at P xs all.1 k d (omega arith)

-- what holds of each item at an index below i holds of the first i items, and from i on of those after them
pub all_front : {A : Type 0} (P : A → Type 0) (i : ℕ) (xs : List A) → i ≤ length xs → ((k : ℕ) (d : A) → 0 ≤ k → k < i → P (get_or xs k d)) → AllByRecursion P (take i xs)
all_front P zero xs le h = tt
all_front P (suc i) [] le h = tt
all_front P (suc i) (x ∷ xs) le h =
    (h 0 x (omega arith) (omega arith), all_front P i xs (omega arith) (λ k d a lt. h (suc k) d (omega arith) (omega arith)))

pub all_back : {A : Type 0} (P : A → Type 0) (i : ℕ) (xs : List A) → ((k : ℕ) (d : A) → i ≤ k → k < length xs → P (get_or xs k d)) → AllByRecursion P (drop i xs)
all_back P zero [] h = tt
all_back P zero (x ∷ xs) h =
    (h 0 x (omega arith) (omega arith), all_back P zero xs (λ k d a lt. h (suc k) d (omega arith) (omega arith)))
all_back P (suc i) [] h = tt
all_back P (suc i) (x ∷ xs) h = all_back P i xs (λ k d a lt. h (suc k) d (omega arith) (omega arith))

-- items that none or all pass
filter_none : {A : Type 0} (p : A → Bool) (xs : List A) → AllByRecursion (λ x. p x ≡ false) xs → filter p xs ≡ []
filter_none p [] all = refl
filter_none p (x ∷ xs) all = rw all.0 (filter_none p xs all.1)

filter_all : {A : Type 0} (p : A → Bool) (xs : List A) → AllByRecursion (λ x. p x ≡ true) xs → filter p xs ≡ xs
filter_all p [] all = refl
filter_all p (x ∷ xs) all = rw all.0 (ap (λ zs. x ∷ zs) (filter_all p xs all.1))

filter_append : {A : Type 0} (p : A → Bool) (xs ys : List A) → filter p (xs ++ ys) ≡ filter p xs ++ filter p ys
filter_append p [] ys = refl
filter_append p (x ∷ xs) ys =
    ⊎_elim
    (λ (t : p x ≡ true). rw t (ap (λ zs. x ∷ zs) (filter_append p xs ys)))
    (λ (t : p x ≡ false). rw t (filter_append p xs ys))
    (cases_Bool (p x))

-- an item is among those of a list that pass a test that equal items pass alike
pub has-filter : {K : Type 0} (R : K → K → Ordering) (t : K → Bool) (k : K) → ((x : K) → is_eq (R x k) ≡ true → t x ≡ t k) → (xs : List K)
    → has_by R k (filter t xs) ≡ (t k && has_by R k xs)
has-filter R t k same [] = nothing (t k)
  where
    nothing : (b : Bool) → false ≡ (b && false)
    nothing true = refl
    nothing false = refl
has-filter R t k same (x ∷ xs) =
    ⊎_elim
    (λ (p : t x ≡ true).
    rw p
    (ap (λ b. is_eq (R x k) || b) (has-filter R t k same xs) ∙ kept (is_eq (R x k)) (t k) (has_by R k xs) (λ e. sym (same x e) ∙ p)))
    (λ (p : t x ≡ false). rw p (has-filter R t k same xs ∙ gone (is_eq (R x k)) (t k) (has_by R k xs) (λ e. sym (same x e) ∙ p)))
    (cases_Bool (t x))
  where
    kept : (a b c : Bool) → (a ≡ true → b ≡ true) → (a || (b && c)) ≡ (b && (a || c))
    kept true true c h = refl
    kept true false c h = absurd (true≢false (sym (h refl)))
    kept false b c h = refl

    gone : (a b c : Bool) → (a ≡ true → b ≡ false) → (b && c) ≡ (b && (a || c))
    gone true true c h = absurd (true≢false (h refl))
    gone true false c h = refl
    gone false b c h = refl

module _ {K : Type 0} {R : K → K → Ordering} (o : IsTotalOrder R) where
  above_from : (x y : K) → R x y ≡ Greater → R y x ≡ Less
  above_from x y e = o.antisymm y x ∙ ap ordering_reverse e

  below_from : (x y : K) → R x y ≡ Less → R y x ≡ Greater
  below_from x y e = o.antisymm y x ∙ ap ordering_reverse e

  -- an item is in a list after a put if and only if it is the item that was put or was there
  pub has-put : (k l : K) (xs : List K) → has_by R l (put_in R k xs) ≡ (is_eq (R k l) || has_by R l xs)
  has-put k l [] = refl
  has-put k l (x ∷ xs) = step (R x k) refl (has-put k l xs)
    where
      step : (r : Ordering) → R x k ≡ r → has_by R l (put_in R k xs) ≡ (is_eq (R k l) || has_by R l xs) → has_by R l (match_ordering r (x ∷ put_in R k xs) (x ∷ xs) (k ∷ x ∷ xs)) ≡ (is_eq (R k l) || has_by R l (x ∷ xs))
      step Less e rec = ap (λ b. is_eq (R x l) || b) rec ∙ or_swap (is_eq (R x l)) (is_eq (R k l)) (has_by R l xs)
      step Equal e rec =
          or_twice (is_eq (R x l)) (has_by R l xs) ∙ ap (λ r. is_eq r || (is_eq (R x l) || has_by R l xs)) (o.congr x k l e)
      step Greater e rec = refl

  pub has-put_all : (ks : List K) (l : K) (xs : List K) → has_by R l (put_all_in R ks xs) ≡ (has_by R l ks || has_by R l xs)
  has-put_all [] l xs = refl
  has-put_all (k ∷ ks) l xs =
      has-put_all ks l (put_in R k xs)
      ∙ (ap (λ b. has_by R l ks || b) (has-put k l xs) ∙ grouped (has_by R l ks) (is_eq (R k l)) (has_by R l xs))
    where
      grouped : (a b c : Bool) → (a || (b || c)) ≡ ((b || a) || c)
      grouped true true c = refl
      grouped true false c = refl
      grouped false true c = refl
      grouped false false c = refl

  -- an item is in a list after a removal if and only if it was there and is not the item that was
  -- taken out
  pub has-take_out : (k l : K) (xs : List K) → has_by R l (take_out R k xs) ≡ (not (is_eq (R k l)) && has_by R l xs)
  has-take_out k l xs =
      has-filter R (λ x. not (is_eq (R x k))) l (λ x e. ap (λ r. not (is_eq r)) (o.congr x l k (eq_Equal (R x l) e))) xs
      ∙ ap (λ b. not b && has_by R l xs) (turned l k)
    where
      turned : (x y : K) → is_eq (R x y) ≡ is_eq (R y x)
      turned x y = by (R y x) (R x y) (o.antisymm x y)
        where
          by : (r s : Ordering) → s ≡ ordering_reverse r → is_eq s ≡ is_eq r
          by Less s e = ap is_eq e
          by Equal s e = ap is_eq e
          by Greater s e = ap is_eq e

  pub has-take_all : (ks : List K) (l : K) (xs : List K) → has_by R l (take_all_out R ks xs) ≡ (not (has_by R l ks) && has_by R l xs)
  has-take_all [] l xs = refl
  has-take_all (k ∷ ks) l xs =
      has-take_all ks l (take_out R k xs)
      ∙ (ap (λ b. not (has_by R l ks) && b) (has-take_out k l xs) ∙ grouped (has_by R l ks) (is_eq (R k l)) (has_by R l xs))
    where
      grouped : (a b c : Bool) → (not a && (not b && c)) ≡ (not (b || a) && c)
      grouped true true c = refl
      grouped true false c = refl
      grouped false true c = refl
      grouped false false c = refl

  all_put : (P : K → Type 0) (k : K) → P k → (xs : List K) → AllByRecursion P xs → AllByRecursion P (put_in R k xs)
  all_put P k p [] all = (p, tt)
  all_put P k p (x ∷ xs) all = step (R x k) (all_put P k p xs all.1)
    where
      step : (r : Ordering) → AllByRecursion P (put_in R k xs) → AllByRecursion P (match_ordering r (x ∷ put_in R k xs) (x ∷ xs) (k ∷ x ∷ xs))
      step Less rec = (all.0, rec)
      step Equal rec = all
      step Greater rec = (p, all)

  -- a list that rises still does
  pub rise-put : (k : K) (xs : List K) → IsStrictlySortedBy R xs → IsStrictlySortedBy R (put_in R k xs)
  unfolding IsStrictlySortedBy
  rise-put k [] rise = (tt, tt)
  rise-put k (x ∷ xs) rise = step (R x k) refl (rise-put k xs rise.1)
    where
      step : (r : Ordering) → R x k ≡ r → IsStrictlySortedBy R (put_in R k xs) → IsStrictlySortedBy R (match_ordering r (x ∷ put_in R k xs) (x ∷ xs) (k ∷ x ∷ xs))
      step Less e rec = (all_put (λ y. R x y ≡ Less) k e xs rise.0, rec)
      step Equal e rec = rise
      step Greater e rec =
          let less = above_from x k e in ((less, all_map (λ y. R x y ≡ Less) (λ y. R k y ≡ Less) (λ y l. o.trans k x y less l) xs rise.0), rise)

  pub rise-put_all : (ks xs : List K) → IsStrictlySortedBy R xs → IsStrictlySortedBy R (put_all_in R ks xs)
  rise-put_all [] xs rise = rise
  rise-put_all (k ∷ ks) xs rise = rise-put_all ks (put_in R k xs) (rise-put k xs rise)

  pub rise-take_out : (k : K) (xs : List K) → IsStrictlySortedBy R xs → IsStrictlySortedBy R (take_out R k xs)
  rise-take_out k xs rise = IsStrictlySortedBy-filter R (λ x. not (is_eq (R x k))) xs rise

  pub rise-take_all : (ks xs : List K) → IsStrictlySortedBy R xs → IsStrictlySortedBy R (take_all_out R ks xs)
  rise-take_all [] xs rise = rise
  rise-take_all (k ∷ ks) xs rise = rise-take_all ks (take_out R k xs) (rise-take_out k xs rise)

  -- ---- entries e with keys f e, found by halving

  module _ {E : Type 0} (f : E → K) where
    -- a test that goes over to what is below is passed by a prefix
    pub parted : (t : K → Bool) → ((x y : K) → R x y ≡ Less → t y ≡ true → t x ≡ true) → (es : List E) → IsStrictlySortedBy R (map f es)
        → (i j : ℕ) (d : E) → i ≤ j → j < length es → t (f (get_or es j d)) ≡ true → t (f (get_or es i d)) ≡ true
    unfolding IsStrictlySortedBy
    parted t down [] rise i j d le lt p = absurd (omega arith)
    parted t down (e ∷ es) rise i zero d le lt p = first i (omega arith)
      where
        first : (k : ℕ) → k ≡ zero → t (f (get_or (e ∷ es) k d)) ≡ true
        first zero z = p
        first (suc k) z = absurd (omega arith)
    parted t down (e ∷ es) rise zero (suc j) d le lt p =
        down (f e) (f (get_or es j d)) (all_at (λ x. R (f e) (f x) ≡ Less) es (all_mapped (λ y. R (f e) y ≡ Less) f es rise.0) j d (omega arith)) p
    parted t down (e ∷ es) rise (suc i) (suc j) d le lt p = parted t down es rise.1 i j d (omega arith) (omega arith) p

    pub below_down : (k x y : K) → R x y ≡ Less → is_lt (R y k) ≡ true → is_lt (R x k) ≡ true
    below_down k x y less p = ap is_lt (o.trans x y k less (lt_Less (R y k) p))

    pub IsPlaceBy-from_partition : (k : K) (es : List E) (i : ℕ) → i ≤ length es
        → IsPartitionPoint (λ e. is_lt (R (f e) k) ≡ true) (λ e. is_lt (R (f e) k) ≡ false) es i → IsPlaceBy R f k es i
    IsPlaceBy-from_partition k es i le point = record {
      within = le;
      before = all_front (λ e. is_lt (R (f e) k) ≡ true) i es le point.0;
      from = all_back (λ e. is_lt (R (f e) k) ≡ false) i es point.1;
    }

    split_here : (es : List E) (i : ℕ) (y : E) → i < length es → y ≡ get_or es i y → drop i es ≡ y ∷ drop (i + 1) es
    split_here es i y lt is = drop_more es i y lt ∙ ap (λ z. z ∷ drop (i + 1) es) (sym is)

    rise_drop : (i : ℕ) (es : List E) → IsStrictlySortedBy R (map f es) → IsStrictlySortedBy R (map f (drop i es))
    unfolding IsStrictlySortedBy
    rise_drop zero es rise = rise
    rise_drop (suc i) [] rise = rise
    rise_drop (suc i) (e ∷ es) rise = rise_drop i es rise.1

    put_past : (k : K) (front rest : List E) → AllByRecursion (λ e. is_lt (R (f e) k) ≡ true) front → put_in R k (map f (front ++ rest)) ≡ map f front ++ put_in R k (map f rest)
    put_past k [] rest all = refl
    put_past k (e ∷ es) rest all = rw (lt_Less (R (f e) k) all.0) (ap (λ zs. f e ∷ zs) (put_past k es rest all.1))

    split_put : (k : K) (es : List E) (i : ℕ) → IsPlaceBy R f k es i → put_in R k (map f es) ≡ map f (take i es) ++ put_in R k (map f (drop i es))
    split_put k es i place = ap (λ zs. put_in R k (map f zs)) (sym (take-append-drop i es)) ∙ put_past k (take i es) (drop i es) place.before

    inserted : (es : List E) (i : ℕ) (e : E) → map f (insert es i e) ≡ map f (take i es) ++ f e ∷ map f (drop i es)
    inserted es i e = map-append f (take i es) (e ∷ drop i es)

    pub put_end : (k : K) (es : List E) (i : ℕ) (e : E) → IsPlaceBy R f k es i → f e ≡ k → i ≡ length es → map f (insert es i e) ≡ put_in R k (map f es)
    put_end k es i e place is at =
        let none : drop i es ≡ [] = drop_all i es (omega arith) in
        inserted es i e
        ∙ (ap₂ (λ x zs. map f (take i es) ++ x ∷ map f zs) is none
        ∙ sym (split_put k es i place ∙ ap (λ zs. map f (take i es) ++ put_in R k (map f zs)) none))

    here_from : (k : K) (es : List E) (i : ℕ) (y : E) → IsPlaceBy R f k es i → drop i es ≡ y ∷ drop (i + 1) es → is_lt (R (f y) k) ≡ false
    here_from k es i y place rest =
        let all : AllByRecursion (λ e. is_lt (R (f e) k) ≡ false) (y ∷ drop (i + 1) es) = subst (AllByRecursion (λ e. is_lt (R (f e) k) ≡ false)) rest place.from in all.0

    pub put_between : (k : K) (es : List E) (i : ℕ) (e y : E) → IsPlaceBy R f k es i → f e ≡ k → i < length es → y ≡ get_or es i y → is_eq (R (f y) k) ≡ false
        → map f (insert es i e) ≡ put_in R k (map f es)
    put_between k es i e y place is lt at ne =
        let rest = split_here es i y lt at in
        let above : R (f y) k ≡ Greater = gt_Greater (R (f y) k) (here_from k es i y place rest) ne in
        let there : put_in R k (map f (y ∷ drop (i + 1) es)) ≡ k ∷ map f (y ∷ drop (i + 1) es) = rw above refl in
        inserted es i e
        ∙ (ap₂ (λ x zs. map f (take i es) ++ x ∷ map f zs) is rest
        ∙ sym (split_put k es i place ∙ (ap (λ zs. map f (take i es) ++ put_in R k (map f zs)) rest ∙ ap (λ zs. map f (take i es) ++ zs) there)))

    joined : (es : List E) (i : ℕ) (rest : List E) → drop i es ≡ rest → map f (take i es) ++ map f rest ≡ map f es
    joined es i rest e = ap (λ zs. map f (take i es) ++ map f zs) (sym e) ∙ (sym (map-append f (take i es) (drop i es)) ∙ ap (map f) (take-append-drop i es))

    pub put_there : (k : K) (es : List E) (i : ℕ) (y : E) → IsPlaceBy R f k es i → i < length es → y ≡ get_or es i y → is_eq (R (f y) k) ≡ true
        → map f es ≡ put_in R k (map f es)
    put_there k es i y place lt at same =
        let rest = split_here es i y lt at in
        let there : put_in R k (map f (y ∷ drop (i + 1) es)) ≡ map f (y ∷ drop (i + 1) es) = rw (eq_Equal (R (f y) k) same) refl in
        sym (split_put k es i place
        ∙ (ap (λ zs. map f (take i es) ++ put_in R k (map f zs)) rest
        ∙ (ap (λ zs. map f (take i es) ++ zs) there ∙ joined es i (y ∷ drop (i + 1) es) rest)))

    lt_not_eq : (r : Ordering) → is_lt r ≡ true → not (is_eq r) ≡ true
    lt_not_eq Less e = refl
    lt_not_eq Equal e = absurd (true≢false (sym e))
    lt_not_eq Greater e = refl

    out_past : (k : K) (front rest : List E) → AllByRecursion (λ e. is_lt (R (f e) k) ≡ true) front → take_out R k (map f (front ++ rest)) ≡ map f front ++ take_out R k (map f rest)
    out_past k [] rest all = refl
    out_past k (e ∷ es) rest all = rw (lt_not_eq (R (f e) k) all.0) (ap (λ zs. f e ∷ zs) (out_past k es rest all.1))

    split_out : (k : K) (es : List E) (i : ℕ) → IsPlaceBy R f k es i → take_out R k (map f es) ≡ map f (take i es) ++ take_out R k (map f (drop i es))
    split_out k es i place = ap (λ zs. take_out R k (map f zs)) (sym (take-append-drop i es)) ∙ out_past k (take i es) (drop i es) place.before

    -- what is above a key stays
    out_above : (k : K) (xs : List K) → AllByRecursion (λ x. R k x ≡ Less) xs → take_out R k xs ≡ xs
    out_above k xs all = filter_all (λ x. not (is_eq (R x k))) xs (all_map (λ x. R k x ≡ Less) (λ x. not (is_eq (R x k)) ≡ true) (λ x l. ap (λ r. not (is_eq r)) (below_from k x l)) xs all)

    after_here : (es : List E) (i : ℕ) (y : E) → IsStrictlySortedBy R (map f es) → drop i es ≡ y ∷ drop (i + 1) es → AllByRecursion (λ x. R (f y) x ≡ Less) (map f (drop (i + 1) es))
    unfolding IsStrictlySortedBy
    after_here es i y rise rest =
        let all : IsStrictlySortedBy R (map f (y ∷ drop (i + 1) es)) = subst (λ zs. IsStrictlySortedBy R (map f zs)) rest (rise_drop i es rise) in all.0

    pub out_end : (k : K) (es : List E) (i : ℕ) → IsPlaceBy R f k es i → i ≡ length es → map f es ≡ take_out R k (map f es)
    out_end k es i place at =
        let none : drop i es ≡ [] = drop_all i es (omega arith) in
        sym (split_out k es i place ∙ (ap (λ zs. map f (take i es) ++ take_out R k (map f zs)) none ∙ joined es i [] none))

    pub out_here : (k : K) (es : List E) (i : ℕ) (y : E) → IsStrictlySortedBy R (map f es) → IsPlaceBy R f k es i → i < length es → y ≡ get_or es i y → is_eq (R (f y) k) ≡ true
        → map f (remove es i) ≡ take_out R k (map f es)
    out_here k es i y rise place lt at same =
        let rest = split_here es i y lt at in
        let equal = eq_Equal (R (f y) k) same in
        let after : AllByRecursion (λ x. R k x ≡ Less) (map f (drop (i + 1) es)) =
        all_map (λ x. R (f y) x ≡ Less) (λ x. R k x ≡ Less) (λ x l. sym (o.congr (f y) k x equal) ∙ l) (map f (drop (i + 1) es)) (after_here es i y rise rest) in
        let there : take_out R k (map f (y ∷ drop (i + 1) es)) ≡ map f (drop (i + 1) es) = rw equal (out_above k (map f (drop (i + 1) es)) after) in
        ap (λ n. map f (take i es ++ drop n es)) (sym (add-one i))
        ∙ (map-append f (take i es) (drop (i + 1) es)
        ∙ sym (split_out k es i place ∙ (ap (λ zs. map f (take i es) ++ take_out R k (map f zs)) rest ∙ ap (λ zs. map f (take i es) ++ zs) there)))

    pub out_between : (k : K) (es : List E) (i : ℕ) (y : E) → IsStrictlySortedBy R (map f es) → IsPlaceBy R f k es i → i < length es → y ≡ get_or es i y → is_eq (R (f y) k) ≡ false
        → map f es ≡ take_out R k (map f es)
    out_between k es i y rise place lt at ne =
        let rest = split_here es i y lt at in
        let less : R k (f y) ≡ Less = above_from (f y) k (gt_Greater (R (f y) k) (here_from k es i y place rest) ne) in
        let after : AllByRecursion (λ x. R k x ≡ Less) (map f (y ∷ drop (i + 1) es)) =
        (less, all_map (λ x. R (f y) x ≡ Less) (λ x. R k x ≡ Less) (λ x l. o.trans k (f y) x less l) (map f (drop (i + 1) es)) (after_here es i y rise rest)) in
        sym (split_out k es i place
        ∙ (ap (λ zs. map f (take i es) ++ take_out R k (map f zs)) rest
        ∙ (ap (λ zs. map f (take i es) ++ zs) (out_above k (map f (y ∷ drop (i + 1) es)) after) ∙ joined es i (y ∷ drop (i + 1) es) rest)))

    -- ---- the part of entries at which an order c of keys, by which they rise too, is `Equal`

    filter_mapped : (p : K → Bool) (es : List E) → filter p (map f es) ≡ map f (filter (λ e. p (f e)) es)
    filter_mapped p [] = refl
    filter_mapped p (e ∷ es) =
        ⊎_elim
        (λ (t : p (f e) ≡ true). rw t (ap (λ zs. f e ∷ zs) (filter_mapped p es)))
        (λ (t : p (f e) ≡ false). rw t (filter_mapped p es))
        (cases_Bool (p (f e)))

    pub part_is : (c : K → Ordering) (es : List E) (m n : ℕ) → m ≤ length es → n ≤ length (drop m es)
        → IsPartitionPoint (λ e. is_lt (c (f e)) ≡ true) (λ e. is_lt (c (f e)) ≡ false) es m
        → IsPartitionPoint (λ e. not (is_gt (c (f e))) ≡ true) (λ e. not (is_gt (c (f e))) ≡ false) (drop m es) n
        → map f (take n (drop m es)) ≡ filter (λ k. is_eq (c k)) (map f es)
    part_is c es m n le short low high =
        let p = λ (e : E). is_eq (c (f e)) in
        let first = filter_none p (take m es) (all_map (λ e. is_lt (c (f e)) ≡ true) (λ e. p e ≡ false) (λ e l. less (c (f e)) l) (take m es) (all_front (λ e. is_lt (c (f e)) ≡ true) m es le low.0)) in
        let last = filter_none p (drop n (drop m es)) (all_map (λ e. not (is_gt (c (f e))) ≡ false) (λ e. p e ≡ false) (λ e l. greater (c (f e)) l) (drop n (drop m es)) (all_back (λ e. not (is_gt (c (f e))) ≡ false) n (drop m es) high.1)) in
        let within = filter_all p (take n (drop m es)) (both n (drop m es) (all_back (λ e. is_lt (c (f e)) ≡ false) m es low.1) (all_front (λ e. not (is_gt (c (f e))) ≡ true) n (drop m es) short high.0)) in
        let middle : filter p (drop m es) ≡ take n (drop m es) =
        ap (filter p) (sym (take-append-drop n (drop m es))) ∙ (filter_append p (take n (drop m es)) (drop n (drop m es)) ∙ (ap₂ (λ xs ys. xs ++ ys) within last ∙ nil_right (take n (drop m es)))) in
        let all : filter p es ≡ take n (drop m es) =
        ap (filter p) (sym (take-append-drop m es)) ∙ (filter_append p (take m es) (drop m es) ∙ ap₂ (λ xs ys. xs ++ ys) first middle) in
        ap (map f) (sym all) ∙ sym (filter_mapped (λ k. is_eq (c k)) es)
      where
        less : (r : Ordering) → is_lt r ≡ true → is_eq r ≡ false
        less Less e = refl
        less Equal e = absurd (true≢false (sym e))
        less Greater e = refl

        greater : (r : Ordering) → not (is_gt r) ≡ false → is_eq r ≡ false
        greater Less e = absurd (true≢false e)
        greater Equal e = absurd (true≢false e)
        greater Greater e = refl

        equal : (r : Ordering) → is_lt r ≡ false → not (is_gt r) ≡ true → is_eq r ≡ true
        equal Less a b = absurd (true≢false a)
        equal Equal a b = refl
        equal Greater a b = absurd (true≢false (sym b))

        nil_right : (xs : List E) → xs ++ [] ≡ xs
        nil_right [] = refl
        nil_right (x ∷ xs) = ap (λ zs. x ∷ zs) (nil_right xs)

        both : (i : ℕ) (xs : List E) → AllByRecursion (λ e. is_lt (c (f e)) ≡ false) xs → AllByRecursion (λ e. not (is_gt (c (f e))) ≡ true) (take i xs)
            → AllByRecursion (λ e. is_eq (c (f e)) ≡ true) (take i xs)
        both zero xs a b = tt
        both (suc i) [] a b = tt
        both (suc i) (x ∷ xs) a b = (equal (c (f x)) a.0 b.0, both i xs a.1 b.1)

    pub rise_part : (m : ℕ) (es : List E) → IsStrictlySortedBy R (map f es) → IsStrictlySortedBy R (map f (drop m es))
    rise_part m es rise = rise_drop m es rise
