-- Rows in the order of time, from the first or from the last time on.
use Rattle.std.proofs.Common.{◌≡◌, ◌≤◌, length, ℕ, ℤ, Bool, true, false, cond, ◌&&◌, ◌||◌, List, [], ◌∷◌, ◌++◌, map, take, drop, refl, sym, ap, ap₂, ◌∙◌, subst, append_assoc, take-append-drop, ⊎_elim, nat_cmp, arith}
use Rattle.std.specs.Prelude.{int_lt}
use Rattle.std.specs.List.{AllByRecursion, list_any}
use Rattle.std.specs.List.Sorted.{IsPartitionPoint, IsStrictlySortedBy}
use Rattle.std.proofs.lemmas.List.{drop-map, drop_all, length-map, map-append, take-map}
use Rattle.std.specs.Ordering.{int_cmp, is_eq, is_lt, match_ordering, ordering_then}
use Rattle.std.specs.Cmp.{IsTotalOrder, signed_Decides}
use Rattle.std.specs.declared.cmp.Ordering.{Ordering}
use Rattle.std.specs.declared.cmp.Ordering.TheVariants.{Less, Equal, Greater}
use Rattle.std.proofs.lemmas.Bool.{cases_Bool, true≢false}
use Rattle.std.proofs.lemmas.Cmp.{back_total, int_cmp_total, nat_cmp_total, on_total, then_total}
use Rattle.mail_records.specs.Orders.{has_by}
use Rattle.mail_records.specs.OrderSteps.{put_in, put_all_in}
use Rattle.mail_records.proofs.KeyTables.{nat_equal, then_first, then_second}
use Rattle.mail_records.proofs.Rising.{all_back, all_front as all_first, rise-put_all}
use Rattle.mail_records.proofs.Unique.{rise_unique}
use Rattle.query_engine.specs.Walks.{IsRunStart, Row, RowsAscend, descending, descending_cmp, ascending_cmp}

pub rising_total : IsTotalOrder ascending_cmp
rising_total = then_total (on_total (λ (r : Row). r.received) int_cmp_total) (on_total (λ (r : Row). r.number) nat_cmp_total)

pub falling_total : IsTotalOrder descending_cmp
falling_total = then_total (back_total (on_total (λ (r : Row). r.received) int_cmp_total)) (on_total (λ (r : Row). r.number) nat_cmp_total)

pub falling_one : (a b : Row) → is_eq (descending_cmp a b) ≡ true → a ≡ b
falling_one a b e =
    let time = sym ((signed_Decides b.received a.received).0 (then_first (int_cmp b.received a.received) (nat_cmp a.number b.number) e)) in
    let number = nat_equal a.number b.number (then_second (int_cmp b.received a.received) (nat_cmp a.number b.number) e) in
    λ i. record { received = time i; number = number i }

-- ---- tests of some item

or_swap : (a b c : Bool) → (a || (b || c)) ≡ (b || (a || c))
or_swap true true c = refl
or_swap true false c = refl
or_swap false b c = refl

or_twice : (a c : Bool) → (a || c) ≡ (a || (a || c))
or_twice true c = refl
or_twice false c = refl

or_or : (a b c : Bool) → (a || (b || c)) ≡ ((a || b) || c)
or_or true b c = refl
or_or false b c = refl

or_false : (b : Bool) → (b || false) ≡ b
or_false true = refl
or_false false = refl

or_turned : (a b : Bool) → (a || b) ≡ (b || a)
or_turned true true = refl
or_turned true false = refl
or_turned false true = refl
or_turned false false = refl

any_append : {X : Type 0} (p : X → Bool) (xs ys : List X) → list_any p (xs ++ ys) ≡ (list_any p xs || list_any p ys)
any_append p [] ys = refl
any_append p (x ∷ xs) ys = ap (λ b. p x || b) (any_append p xs ys) ∙ or_or (p x) (list_any p xs) (list_any p ys)

module _ {K : Type 0} (R : K → K → Ordering) (one : (a b : K) → is_eq (R a b) ≡ true → a ≡ b) (p : K → Bool) where
  any_put : (k : K) (xs : List K) → list_any p (put_in R k xs) ≡ (p k || list_any p xs)
  any_put k [] = refl
  any_put k (x ∷ xs) = step (R x k) refl (any_put k xs)
    where
      step : (r : Ordering) → R x k ≡ r → list_any p (put_in R k xs) ≡ (p k || list_any p xs) → list_any p (match_ordering r (x ∷ put_in R k xs) (x ∷ xs) (k ∷ x ∷ xs)) ≡ (p k || (p x || list_any p xs))
      step Less e rec = ap (λ b. p x || b) rec ∙ or_swap (p x) (p k) (list_any p xs)
      step Equal e rec = or_twice (p x) (list_any p xs) ∙ ap (λ y. p y || (p x || list_any p xs)) (one x k (ap is_eq e))
      step Greater e rec = refl

  any_put_all : (ks xs : List K) → list_any p (put_all_in R ks xs) ≡ (list_any p ks || list_any p xs)
  any_put_all [] xs = refl
  any_put_all (k ∷ ks) xs =
      any_put_all ks (put_in R k xs)
      ∙ (ap (λ b. list_any p ks || b) (any_put k xs) ∙ (or_swap (list_any p ks) (p k) (list_any p xs) ∙ or_or (p k) (list_any p ks) (list_any p xs)))

  pub any_sorted : (ks : List K) → list_any p (put_all_in R ks []) ≡ list_any p ks
  any_sorted ks = any_put_all ks [] ∙ or_false (list_any p ks)

-- ---- each item

module _ {K : Type 0} (R : K → K → Ordering) (P : K → Type 0) where
  all_put : (k : K) → P k → (xs : List K) → AllByRecursion P xs → AllByRecursion P (put_in R k xs)
  all_put k p [] all = (p, tt)
  all_put k p (x ∷ xs) all = step (R x k) (all_put k p xs all.1)
    where
      step : (r : Ordering) → AllByRecursion P (put_in R k xs) → AllByRecursion P (match_ordering r (x ∷ put_in R k xs) (x ∷ xs) (k ∷ x ∷ xs))
      step Less rec = (all.0, rec)
      step Equal rec = all
      step Greater rec = (p, all)

  all_put_all : (ks xs : List K) → AllByRecursion P ks → AllByRecursion P xs → AllByRecursion P (put_all_in R ks xs)
  all_put_all [] xs a b = b
  all_put_all (k ∷ ks) xs a b = all_put_all ks (put_in R k xs) a.1 (all_put k a.0 xs b)

  pub all_sorted : (ks : List K) → AllByRecursion P ks → AllByRecursion P (put_all_in R ks [])
  all_sorted ks a = all_put_all ks [] a tt

pub all_map : {A : Type 0} (P Q : A → Type 0) → ((x : A) → P x → Q x) → (xs : List A) → AllByRecursion P xs → AllByRecursion Q xs
all_map P Q f [] all = tt
all_map P Q f (x ∷ xs) all = (f x all.0, all_map P Q f xs all.1)

-- ---- lists that rise

module _ {K : Type 0} (R : K → K → Ordering) where
  all_front : (P : K → Type 0) (xs ys : List K) → AllByRecursion P (xs ++ ys) → AllByRecursion P xs
  all_front P [] ys all = tt
  all_front P (x ∷ xs) ys all = (all.0, all_front P xs ys all.1)

  pub front_rises : (xs ys : List K) → IsStrictlySortedBy R (xs ++ ys) → IsStrictlySortedBy R xs
  unfolding IsStrictlySortedBy
  front_rises [] ys rise = tt
  front_rises (x ∷ xs) ys rise = (all_front (λ y. R x y ≡ Less) xs ys rise.0, front_rises xs ys rise.1)

  pub back_rises : (xs ys : List K) → IsStrictlySortedBy R (xs ++ ys) → IsStrictlySortedBy R ys
  unfolding IsStrictlySortedBy
  back_rises [] ys rise = rise
  back_rises (x ∷ xs) ys rise = back_rises xs ys rise.1

  all_append : (P : K → Type 0) (xs ys : List K) → AllByRecursion P xs → AllByRecursion P ys → AllByRecursion P (xs ++ ys)
  all_append P [] ys a b = b
  all_append P (x ∷ xs) ys a b = (a.0, all_append P xs ys a.1 b)

  joined_rises : (xs ys : List K) → IsStrictlySortedBy R xs → IsStrictlySortedBy R ys → AllByRecursion (λ x. AllByRecursion (λ y. R x y ≡ Less) ys) xs → IsStrictlySortedBy R (xs ++ ys)
  unfolding IsStrictlySortedBy
  joined_rises [] ys a b all = b
  joined_rises (x ∷ xs) ys a b all = (all_append (λ y. R x y ≡ Less) xs ys a.0 all.0, joined_rises xs ys a.1 b all.1)

-- ---- the last time first

then_less : (r s : Ordering) → r ≡ Less → ordering_then r s ≡ Less
then_less r s e = ap (λ o. ordering_then o s) e

run_rises : (time : ℤ) (run : List Row) → AllByRecursion (λ (r : Row). r.received ≡ time) run → RowsAscend run → IsStrictlySortedBy descending_cmp run
unfolding IsStrictlySortedBy
run_rises time [] all rise = tt
run_rises time (r ∷ rs) all rise = (heads rs all.1 rise.0, run_rises time rs all.1 rise.1)
  where
    heads : (ys : List Row) → AllByRecursion (λ (y : Row). y.received ≡ time) ys → AllByRecursion (λ y. ascending_cmp r y ≡ Less) ys → AllByRecursion (λ y. descending_cmp r y ≡ Less) ys
    heads [] a b = tt
    heads (y ∷ ys) a b =
        let same : int_cmp r.received y.received ≡ int_cmp y.received r.received = ap₂ int_cmp (all.0 ∙ sym a.0) (a.0 ∙ sym all.0) in
        (ap (λ o. ordering_then o (nat_cmp r.number y.number)) (sym same) ∙ b.0, heads ys a.1 b.1)

sorted : (xs : List Row) → IsStrictlySortedBy descending_cmp (descending xs)
unfolding IsStrictlySortedBy
sorted xs = rise-put_all falling_total xs [] tt

pub falling_step : (before run : List Row) (time : ℤ) → RowsAscend (before ++ run) → AllByRecursion (λ (r : Row). int_cmp r.received time ≡ Less) before
    → AllByRecursion (λ (r : Row). r.received ≡ time) run → descending (before ++ run) ≡ run ++ descending before
falling_step before run time rise less same =
    rise_unique falling_total falling_one (descending (before ++ run)) (run ++ descending before) (sorted (before ++ run))
    (joined_rises descending_cmp run (descending before) (run_rises time run same (back_rises ascending_cmp before run rise)) (sorted before) (all_over run same)) has
  where
    all_over : (rs : List Row) → AllByRecursion (λ (r : Row). r.received ≡ time) rs → AllByRecursion (λ x. AllByRecursion (λ y. descending_cmp x y ≡ Less) (descending before)) rs
    all_over [] a = tt
    all_over (r ∷ rs) a = (
      all_map (λ (y : Row). int_cmp y.received time ≡ Less) (λ y. descending_cmp r y ≡ Less)
          (λ y l. then_less (int_cmp y.received r.received) (nat_cmp r.number y.number) (ap (int_cmp y.received) a.0 ∙ l)) (descending before)
          (all_sorted descending_cmp (λ (y : Row). int_cmp y.received time ≡ Less) before less),
      all_over rs a.1,
    )

    has : (k : Row) → has_by descending_cmp k (descending (before ++ run)) ≡ has_by descending_cmp k (run ++ descending before)
    has k =
        let p : Row → Bool = λ x. is_eq (descending_cmp x k) in
        any_sorted descending_cmp falling_one p (before ++ run)
        ∙ (any_append p before run
        ∙ (or_turned (list_any p before) (list_any p run)
        ∙ (ap (λ b. list_any p run || b) (sym (any_sorted descending_cmp falling_one p before)) ∙ sym (any_append p run (descending before)))))

-- ---- the run of the last time

lt_Less : (a b : ℤ) → int_lt a b ≡ true → int_cmp a b ≡ Less
lt_Less a b e = ap (λ t. cond t Less (cond (int_lt b a) Greater Equal)) e

not_less : (a b : ℤ) (s : Ordering) → int_lt a b ≡ false → ordering_then (int_cmp a b) s ≡ Less → int_cmp a b ≡ Equal
not_less a b s e h =
    ⊎_elim
    (λ (g : int_lt b a ≡ true).
    let is : int_cmp a b ≡ Greater = ap (λ t. cond t Less (cond (int_lt b a) Greater Equal)) e ∙ ap (λ t. cond t Greater Equal) g in
    absurd (greater_less (sym (ap (λ o. ordering_then o s) is) ∙ h)))
    (λ (g : int_lt b a ≡ false). ap (λ t. cond t Less (cond (int_lt b a) Greater Equal)) e ∙ ap (λ t. cond t Greater Equal) g)
    (cases_Bool (int_lt b a))
  where
    greater_less : Greater ≡ Less → ⊥
    greater_less e = cc

below_end : (xs : List Row) (n : Row) → RowsAscend (xs ++ n ∷ []) → AllByRecursion (λ y. ascending_cmp y n ≡ Less) xs
unfolding IsStrictlySortedBy
below_end [] n rise = tt
below_end (x ∷ xs) n rise = (at_end xs rise.0, below_end xs n rise.1)
  where
    at_end : (ys : List Row) → AllByRecursion (λ y. ascending_cmp x y ≡ Less) (ys ++ n ∷ []) → ascending_cmp x n ≡ Less
    at_end [] all = all.0
    at_end (y ∷ ys) all = at_end ys all.1

same_times : (last : Row) (xs : List Row) → AllByRecursion (λ y. ascending_cmp y last ≡ Less) xs → AllByRecursion (λ (r : Row). int_lt r.received last.received ≡ false) xs
    → AllByRecursion (λ (r : Row). r.received ≡ last.received) (xs ++ last ∷ [])
same_times last [] a b = (refl, tt)
same_times last (x ∷ xs) a b =
    ((signed_Decides x.received last.received).0 (ap is_eq (not_less x.received last.received (nat_cmp x.number last.number) b.0 a.0)), same_times last xs a.1 b.1)

pub run_first : (others : List Row) (last : Row) (start : ℕ) → IsRunStart others start last.received → RowsAscend (others ++ last ∷ [])
    → descending (others ++ last ∷ []) ≡ (drop start others ++ last ∷ []) ++ descending (take start others)
run_first others last start is rise =
    let before = take start others in
    let run = drop start others ++ last ∷ [] in
    let whole : others ++ last ∷ [] ≡ before ++ run = ap (λ xs. xs ++ last ∷ []) (sym (take-append-drop start others)) ∙ append_assoc before (drop start others) (last ∷ []) in
    let split : RowsAscend (before ++ run) = subst RowsAscend whole rise in
    ap descending whole
    ∙ falling_step before run last.received split (all_map (λ (r : Row). int_lt r.received last.received ≡ true) (λ (r : Row). int_cmp r.received last.received ≡ Less) (λ r e. lt_Less r.received last.received e) before is.before)
    (same_times last (drop start others) (below_end (drop start others) last (back_rises ascending_cmp before run split)) is.from)

pub start_rises : (others : List Row) (last : Row) (start : ℕ) → RowsAscend (others ++ last ∷ []) → RowsAscend (take start others)
start_rises others last start rise =
    front_rises ascending_cmp (take start others) (drop start others) (subst RowsAscend (sym (take-append-drop start others)) (front_rises ascending_cmp others (last ∷ []) rise))

-- what is before a time is after nothing that is
pub below_time : (time : ℤ) (x y : Row) → ascending_cmp x y ≡ Less → int_lt y.received time ≡ true → int_lt x.received time ≡ true
below_time time x y less e = by (int_cmp x.received y.received) refl less
  where
    less_of : (a b : ℤ) → int_cmp a b ≡ Less → int_lt a b ≡ true
    less_of a b h =
        ⊎_elim (λ (t : int_lt a b ≡ true). t)
        (λ (f : int_lt a b ≡ false). absurd (other (cond_cases (int_lt b a)) (sym (ap (λ t. cond t Less (cond (int_lt b a) Greater Equal)) f) ∙ h)))
        (cases_Bool (int_lt a b))
      where
        cond_cases : (b : Bool) → is_lt (cond b Greater Equal) ≡ false
        cond_cases true = refl
        cond_cases false = refl

        other : {o : Ordering} → is_lt o ≡ false → o ≡ Less → ⊥
        other {o} n l = true≢false (sym (ap is_lt l) ∙ n)

    by : (o : Ordering) → int_cmp x.received y.received ≡ o → ordering_then o (nat_cmp x.number y.number) ≡ Less → int_lt x.received time ≡ true
    by Less is h = less_of x.received time (int_cmp_total.trans x.received y.received time is (lt_Less y.received time e))
    by Equal is h = less_of x.received time (int_cmp_total.congr x.received y.received time is ∙ lt_Less y.received time e)
    by Greater is h = absurd (cc)

-- entries of which the last is before a time
pub all_before : {E : Type 0} (f : E → Row) (time : ℤ) (es others : List E) (last : E) → es ≡ others ++ last ∷ [] → RowsAscend (map f es) → int_lt (f last).received time ≡ true → IsRunStart (map f es) (length es) time
all_before f time es others last is rise less =
    let P : Row → Type 0 = λ r. int_lt r.received time ≡ true in
    let rows : map f es ≡ map f others ++ f last ∷ [] = ap (map f) is ∙ map-append f others (last ∷ []) in
    let below = below_end (map f others) (f last) (subst RowsAscend rows rise) in
    let each : AllByRecursion P (map f es) = subst (AllByRecursion P) (sym rows)
    (all_joined P (map f others) (f last ∷ []) (all_map (λ y. ascending_cmp y (f last) ≡ Less) P (λ y l. below_time time y (f last) l less) (map f others) below) (less, tt)) in
    let long : length es ≡ length (map f es) = sym (length-map es f) in
    record {
      within = subst (λ n. n ≤ length (map f es)) (sym long) (omega arith);
      before = subst (λ n. AllByRecursion P (take n (map f es))) (sym long) (subst (AllByRecursion P) (sym (take_all (map f es))) each);
      from = subst (λ n. AllByRecursion (λ (r : Row). int_lt r.received time ≡ false) (drop n (map f es))) (sym long) (subst (AllByRecursion (λ (r : Row). int_lt r.received time ≡ false)) (sym (drop_all (length (map f es)) (map f es) (omega arith))) tt);
    }
  where
    all_joined : (P : Row → Type 0) (xs ys : List Row) → AllByRecursion P xs → AllByRecursion P ys → AllByRecursion P (xs ++ ys)
    all_joined P [] ys a b = b
    all_joined P (x ∷ xs) ys a b = (a.0, all_joined P xs ys a.1 b)

    take_all : (xs : List Row) → take (length xs) xs ≡ xs
    take_all [] = refl
    take_all (x ∷ xs) = ap (λ zs. x ∷ zs) (take_all xs)

all_mapped : {X Y : Type 0} (P : Y → Type 0) (f : X → Y) (xs : List X) → AllByRecursion (λ x. P (f x)) xs → AllByRecursion P (map f xs)
all_mapped P f [] all = tt
all_mapped P f (x ∷ xs) all = (all.0, all_mapped P f xs all.1)

pub run_starts : {E : Type 0} (f : E → Row) (time : ℤ) (es : List E) (i : ℕ) → i ≤ length es
    → IsPartitionPoint (λ e. int_lt (f e).received time ≡ true) (λ e. int_lt (f e).received time ≡ false) es i → IsRunStart (map f es) i time
run_starts {E} f time es i le point =
    let P : Row → Type 0 = λ r. int_lt r.received time ≡ true in
    let Q : Row → Type 0 = λ r. int_lt r.received time ≡ false in
    record {
      within = subst (λ n. i ≤ n) (sym (length-map es f)) le;
      before = subst (AllByRecursion P) (sym (take-map f i es)) (all_mapped P f (take i es) (all_first (λ e. P (f e)) i es le point.0));
      from = subst (AllByRecursion Q) (sym (drop-map f i es)) (all_mapped Q f (drop i es) (all_back (λ e. Q (f e)) i es point.1));
    }
