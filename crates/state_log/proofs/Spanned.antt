-- The positions of the items that pass: how they are split, counted and looked up.
use Rattle.std.proofs.Common.{◌≡◌, ℕ, zero, suc, ◌+◌, ◌-◌, ◌<◌, ◌≤◌, Bool, true, false, leb, le-leb, List, [], ◌∷◌, ◌++◌, Option, Some, None, take, drop, length, get_or, filter, cond, refl, ap, subst, length-append, ◌∙◌, arith, ⊎_elim}
use Rattle.std.specs.Prelude.{unwrap_or, slice_get}
use Rattle.std.specs.List.{All, prefix_len}
use Rattle.std.proofs.Math.ListN.{get_or-append}
use Rattle.std.specs.List.Sorted.{IsNonDecreasingBy, IsPartitionPoint}
use Rattle.std.proofs.Math.Seq.{drop-append_seam, get_or-append_seam, take-append_seam}
use Rattle.std.proofs.lemmas.Bool.{cases_Bool}
use Rattle.mail_records.specs.States.{last_place, place_with, placed_above}
use Rattle.state_log.specs.Positions.{count_upto, last_or, positions_where}

-- ---- parts

-- the positions of a list are those of its first items and those of the others
pub positions-split : {A : Type 0} (test : A → Bool) (at n : ℕ) (xs : List A) → positions_where test at xs ≡ positions_where test at (take n xs) ++ positions_where test (at + n) (drop n xs)
positions-split test at zero xs = let e : at ≡ at + 0 = omega arith in ap (λ m. positions_where test m xs) e
positions-split test at (suc n) [] = refl
positions-split test at (suc n) (x ∷ xs) =
    let e : at + 1 + n ≡ at + suc n = omega arith in
    let rest : positions_where test (at + 1) xs ≡ positions_where test (at + 1) (take n xs) ++ positions_where test (at + suc n) (drop n xs) =
    positions-split test (at + 1) n xs ∙ ap (λ m. positions_where test (at + 1) (take n xs) ++ positions_where test m (drop n xs)) e in
    ⊎_elim
    (λ (t : test x ≡ true). rw t (ap (λ ps. (at + 1) ∷ ps) rest))
    (λ (t : test x ≡ false). rw t rest)
    (cases_Bool (test x))

-- the part of a list between two of its seams
pub between_seams : {A : Type 0} (whole front part after : List A) (m n : ℕ) → whole ≡ (front ++ part) ++ after → m ≡ length front → n ≡ length (front ++ part) → drop m (take n whole) ≡ part
between_seams whole front part after m n is first last =
    ap (λ k. drop m (take k whole)) last
    ∙ (ap (λ zs. drop m (take (length (front ++ part)) zs)) is
    ∙ (ap (drop m) (take-append_seam (front ++ part) after)
    ∙ (ap (λ k. drop k (front ++ part)) first ∙ drop-append_seam front part)))

pub front_seam : {A : Type 0} (whole front after : List A) (n : ℕ) → whole ≡ front ++ after → n ≡ length front → take n whole ≡ front
front_seam whole front after n is count = ap (λ k. take k whole) count ∙ (ap (take (length front)) is ∙ take-append_seam front after)

pub after_seam : {A : Type 0} (whole front after : List A) (n : ℕ) → whole ≡ front ++ after → n ≡ length front → drop n whole ≡ after
after_seam whole front after n is count = ap (λ k. drop k whole) count ∙ (ap (drop (length front)) is ∙ drop-append_seam front after)

-- ---- bounds and order

first_bounds : (at size : ℕ) (ps : List ℕ) (d : ℕ) → ((k : ℕ) → k < length ps → (at + 1 < get_or ps k d) × (get_or ps k d ≤ at + 1 + size)) → (k : ℕ) → k < length ((at + 1) ∷ ps)
    → (at < get_or ((at + 1) ∷ ps) k d) × (get_or ((at + 1) ∷ ps) k d ≤ at + suc size)
first_bounds at size ps d rest zero lt = (omega arith, omega arith)
first_bounds at size ps d rest (suc k) lt = let b = rest k (omega arith) in let low = b.0 in let high = b.1 in (omega arith, omega arith)

first_rises : (at : ℕ) (ps : List ℕ) (d : ℕ) → ((k : ℕ) → k < length ps → at + 1 < get_or ps k d) → ((i j : ℕ) → i ≤ j → j < length ps → get_or ps i d ≤ get_or ps j d) → (i j : ℕ) → i ≤ j
    → j < length ((at + 1) ∷ ps) → get_or ((at + 1) ∷ ps) i d ≤ get_or ((at + 1) ∷ ps) j d
first_rises at ps d above rise zero zero le lt = omega arith
first_rises at ps d above rise zero (suc j) le lt = let low = above j (omega arith) in omega arith
first_rises at ps d above rise (suc i) zero le lt = absurd (omega arith)
first_rises at ps d above rise (suc i) (suc j) le lt = rise i j (omega arith) (omega arith)

-- each position is above the one before the first item, and at most that of the last item
pub positions-bounds : {A : Type 0} (test : A → Bool) (at : ℕ) (xs : List A) (k d : ℕ) → k < length (positions_where test at xs)
    → (at < get_or (positions_where test at xs) k d) × (get_or (positions_where test at xs) k d ≤ at + length xs)
positions-bounds test at [] k d = λ lt. absurd (omega arith)
positions-bounds test at (x ∷ xs) k d =
    ⊎_elim
    (λ (t : test x ≡ true). rw t (first_bounds at (length xs) (positions_where test (at + 1) xs) d (λ j lt. positions-bounds test (at + 1) xs j d lt) k))
    (λ (t : test x ≡ false). rw t (λ lt. let b = positions-bounds test (at + 1) xs k d lt in let low = b.0 in let high = b.1 in (omega arith, omega arith)))
    (cases_Bool (test x))

-- positions don't fall
pub positions-rise : {A : Type 0} (test : A → Bool) (at : ℕ) (xs : List A) → IsNonDecreasingBy (λ n. n) (positions_where test at xs)
positions-rise test at [] i j d le = λ lt. absurd (omega arith)
positions-rise test at (x ∷ xs) i j d le =
    ⊎_elim
    (λ (t : test x ≡ true).
    rw t (first_rises at (positions_where test (at + 1) xs) d (λ k lt. (positions-bounds test (at + 1) xs k d lt).0) (λ k l. positions-rise test (at + 1) xs k l d) i j le))
    (λ (t : test x ≡ false). rw t (λ lt. positions-rise test (at + 1) xs i j d le lt))
    (cases_Bool (test x))

-- ---- counts

none_upto : {A : Type 0} (test : A → Bool) (at k : ℕ) (xs : List A) → k ≤ at → count_upto (positions_where test at xs) k ≡ 0
none_upto test at k [] le = refl
none_upto test at k (x ∷ xs) le =
    ⊎_elim
    (λ (t : test x ≡ true). let above : leb (at + 1) k ≡ false = grind arith in rw t (rw above refl))
    (λ (t : test x ≡ false). rw t (none_upto test (at + 1) k xs (omega arith)))
    (cases_Bool (test x))

counted : {A : Type 0} (test : A → Bool) (at k m : ℕ) (xs : List A) → m ≡ k - at → count_upto (positions_where test at xs) k ≡ length (positions_where test at (take m xs))
counted test at k zero [] is = refl
counted test at k zero (x ∷ xs) is = none_upto test at k (x ∷ xs) (omega arith)
counted test at k (suc m) [] is = refl
counted test at k (suc m) (x ∷ xs) is =
    ⊎_elim
    (λ (t : test x ≡ true).
    let low : leb (at + 1) k ≡ true = le-leb (at + 1) k (omega arith) in
    let rest = counted test (at + 1) k m xs (omega arith) in
    rw t (rw low (let e : 1 + count_upto (positions_where test (at + 1) xs) k ≡ suc (length (positions_where test (at + 1) (take m xs))) = omega arith in e)))
    (λ (t : test x ≡ false). rw t (counted test (at + 1) k m xs (omega arith)))
    (cases_Bool (test x))

-- those up to a position are those of the items up to there
pub count-positions : {A : Type 0} (test : A → Bool) (at k : ℕ) (xs : List A) → count_upto (positions_where test at xs) k ≡ length (positions_where test at (take (k - at) xs))
count-positions test at k xs = counted test at k (k - at) xs refl

-- more are at most a later position
pub count-more : (ps : List ℕ) (j k : ℕ) → j ≤ k → count_upto ps j ≤ count_upto ps k
count-more [] j k le = omega arith
count-more (p ∷ ps) j k le =
    ⊎_elim
    (λ (t : leb p j ≡ true).
    let more = count-more ps j k le in
    let low : leb p k ≡ true = grind arith in
    rw t (rw low (let e : 1 + count_upto ps j ≤ 1 + count_upto ps k = omega arith in e)))
    (λ (t : leb p j ≡ false). rw t (let e : 0 ≤ count_upto (p ∷ ps) k = omega arith in e))
    (cases_Bool (leb p j))

-- where the first i items pass, and the others don't, i items pass from the front on
pub partition_is : {A : Type 0} (p : A → Bool) (xs : List A) (i : ℕ) → i ≤ length xs → IsPartitionPoint (λ y. p y ≡ true) (λ y. p y ≡ false) xs i → i ≡ prefix_len p xs
partition_is p [] i le parted = omega arith
partition_is p (x ∷ xs) zero le parted =
    let fails : p x ≡ false = parted.1 0 x (omega arith) (omega arith) in rw fails refl
partition_is p (x ∷ xs) (suc i) le parted =
    let passes : p x ≡ true = parted.0 0 x (omega arith) (omega arith) in
    let rest : i ≡ prefix_len p xs =
    partition_is p xs i (omega arith)
    ((λ k d low lt. parted.0 (suc k) d (omega arith) (omega arith)), (λ k d low lt. parted.1 (suc k) d (omega arith) (omega arith))) in
    rw passes (let e : suc i ≡ 1 + prefix_len p xs = omega arith in e)

-- ---- the last position

placed_first : (at n : ℕ) (o : Option ℕ) → placed_above (at + 1) (at + 1) o ≡ placed_above at n (place_with true o)
placed_first at n None = refl
placed_first at n (Some m) = omega arith

placed_later : (at n : ℕ) (o : Option ℕ) → placed_above (at + 1) n o ≡ placed_above at n (place_with false o)
placed_later at n None = refl
placed_later at n (Some m) = omega arith

-- the last position is that of the last item that passes
pub last-positions : {A : Type 0} (test : A → Bool) (at n : ℕ) (xs : List A) → last_or (positions_where test at xs) n ≡ placed_above at n (last_place test xs)
last-positions test at n [] = refl
last-positions test at n (x ∷ xs) =
    ⊎_elim
    (λ (t : test x ≡ true). rw t (last-positions test (at + 1) (at + 1) xs ∙ placed_first at n (last_place test xs)))
    (λ (t : test x ≡ false). rw t (last-positions test (at + 1) n xs ∙ placed_later at n (last_place test xs)))
    (cases_Bool (test x))

pub last_is : (ps : List ℕ) (n : ℕ) → last_or ps n ≡ unwrap_or (slice_get ps (length ps - 1)) n
last_is [] n = refl
last_is (p ∷ []) n = refl
last_is (p ∷ (q ∷ qs)) n =
    let e : suc (length (q ∷ qs) - 1) ≡ length (p ∷ (q ∷ qs)) - 1 = omega arith in
    last_is (q ∷ qs) n ∙ ap (λ k. unwrap_or (slice_get (p ∷ (q ∷ qs)) k) n) e

-- ---- the last one that passes

pub last_kept : (f : ℕ → Bool) (xs : List ℕ) (x n : ℕ) → f x ≡ true → last_or (filter f (xs ++ x ∷ [])) n ≡ x
last_kept f [] x n t = rw t refl
last_kept f (y ∷ ys) x n t =
    ⊎_elim
    (λ (k : f y ≡ true). rw k (last_kept f ys x y t))
    (λ (k : f y ≡ false). rw k (last_kept f ys x n t))
    (cases_Bool (f y))

pub last_left_out : (f : ℕ → Bool) (xs : List ℕ) (x : ℕ) → f x ≡ false → filter f (xs ++ x ∷ []) ≡ filter f xs
last_left_out f [] x t = rw t refl
last_left_out f (y ∷ ys) x t = ap (λ zs. cond (f y) (y ∷ zs) zs) (last_left_out f ys x t)

pub all_last : (P : ℕ → Type 0) (xs : List ℕ) (x : ℕ) → All P (xs ++ x ∷ []) → P x
all_last P xs x all = subst P (get_or-append_seam xs x [] 0) (all (length xs) 0 (let e : length (xs ++ x ∷ []) ≡ length xs + 1 = length-append xs (x ∷ []) in omega arith))

pub all_front : (P : ℕ → Type 0) (xs ys : List ℕ) → All P (xs ++ ys) → All P xs
all_front P xs ys all k d lt = subst P (get_or-append xs ys d k lt) (all k d (let e : length (xs ++ ys) ≡ length xs + length ys = length-append xs ys in omega (arith, e, lt)))
