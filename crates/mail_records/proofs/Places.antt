-- The place of a number in a table, and what a look-up, a put and a removal there come to.
use Rattle.std.proofs.Common.{◌≡◌, ◌≢◌, ℕ, ◌+◌, ◌<◌, ◌≤◌, true, false, eqb, ltb, List, [], ◌∷◌, ◌++◌, Some, None, take, drop, set, insert, length, get_or, zero, suc, refl, sym, ap, ◌∙◌, subst, arith, take-append-drop, ne_eqb, eq-eqb, le-ltb, lt-ltb, add-one}
use Rattle.std.specs.List.{AllByRecursion, remove}
use Rattle.std.specs.List.Sorted.{IsPartitionPoint}
use Rattle.std.proofs.lemmas.Bool.{ltb-true, ltb-false}
use Rattle.std.proofs.lemmas.List.{drop_more, drop_all, set_split}
use Rattle.mail_records.specs.Tables.{IsPlace, IsTable, lookup, put, without}

-- what holds of each item at an index below i holds of the first i items
pub all_front : {R : Type 0} (P : R → Type 0) (i : ℕ) (xs : List R) → i ≤ length xs → ((k : ℕ) (d : R) → 0 ≤ k → k < i → P (get_or xs k d)) → AllByRecursion P (take i xs)
all_front P zero xs le h = tt
all_front P (suc i) [] le h = tt
all_front P (suc i) (x ∷ xs) le h =
    (h 0 x (omega arith) (omega arith), all_front P i xs (omega arith) (λ k d a lt. h (suc k) d (omega arith) (omega arith)))

-- what holds of each item at an index from i on holds of those after the first i
pub all_back : {R : Type 0} (P : R → Type 0) (i : ℕ) (xs : List R) → ((k : ℕ) (d : R) → i ≤ k → k < length xs → P (get_or xs k d)) → AllByRecursion P (drop i xs)
all_back P zero [] h = tt
all_back P zero (x ∷ xs) h =
    (h 0 x (omega arith) (omega arith), all_back P zero xs (λ k d a lt. h (suc k) d (omega arith) (omega arith)))
all_back P (suc i) [] h = tt
all_back P (suc i) (x ∷ xs) h = all_back P i xs (λ k d a lt. h (suc k) d (omega arith) (omega arith))

pub all_map : {R : Type 0} (P Q : R → Type 0) → ((r : R) → P r → Q r) → (xs : List R) → AllByRecursion P xs → AllByRecursion Q xs
all_map P Q f [] all = tt
all_map P Q f (x ∷ xs) all = (f x all.0, all_map P Q f xs all.1)

pub all_at : {R : Type 0} (P : R → Type 0) (xs : List R) → AllByRecursion P xs → (k : ℕ) (d : R) → k < length xs → P (get_or xs k d)
all_at P [] all k d lt = absurd (omega arith)
all_at P (x ∷ xs) all zero d lt = all.0
all_at P (x ∷ xs) all (suc k) d lt = all_at P xs all.1 k d (omega arith)

pub IsNonDecreasingBy-from_table : {R : Type 0} (number : R → ℕ) (xs : List R) → IsTable number xs → (i j : ℕ) (d : R) → i ≤ j → j < length xs → number (get_or xs i d) ≤ number (get_or xs j d)
IsNonDecreasingBy-from_table number [] table i j d le lt = absurd (omega arith)
IsNonDecreasingBy-from_table number (x ∷ xs) table i zero d le lt = at_first i (omega arith)
  where
    at_first : (k : ℕ) → k ≡ zero → number (get_or (x ∷ xs) k d) ≤ number x
    at_first zero e = omega arith
    at_first (suc k) e = absurd (omega arith)
IsNonDecreasingBy-from_table number (x ∷ xs) table zero (suc j) d le lt =
    let above : number x < number (get_or xs j d) = all_at (λ y. number x < number y) xs table.0 j d (omega arith) in omega arith
IsNonDecreasingBy-from_table number (x ∷ xs) table (suc i) (suc j) d le lt =
    IsNonDecreasingBy-from_table number xs table.1 i j d (omega arith) (omega arith)

-- the partition point of the test that a number is below n
pub IsPlace-from_partition : {R : Type 0} (number : R → ℕ) (n : ℕ) (xs : List R) (i : ℕ) → i ≤ length xs → IsPartitionPoint (λ y. ltb (number y) n ≡ true) (λ y. ltb (number y) n ≡ false) xs i → IsPlace number n xs i
IsPlace-from_partition number n xs i le point = record {
  within = le;
  before = all_front (λ r. number r < n) i xs le (λ k d a lt. ltb-true (number (get_or xs k d)) n (point.0 k d a lt));
  from = all_back (λ r. n ≤ number r) i xs (λ k d a lt. ltb-false (number (get_or xs k d)) n (point.1 k d a lt));
}

IsTable-drop : {R : Type 0} (number : R → ℕ) (i : ℕ) (xs : List R) → IsTable number xs → IsTable number (drop i xs)
IsTable-drop number zero xs table = table
IsTable-drop number (suc i) [] table = table
IsTable-drop number (suc i) (x ∷ xs) table = IsTable-drop number i xs table.1

-- the record at the place, and those after it
split_here : {R : Type 0} (xs : List R) (i : ℕ) (y : R) → i < length xs → y ≡ get_or xs i y → drop i xs ≡ y ∷ drop (i + 1) xs
split_here xs i y lt is = drop_more xs i y lt ∙ ap (λ z. z ∷ drop (i + 1) xs) (sym is)

here_from : {R : Type 0} (number : R → ℕ) (n : ℕ) (xs : List R) (i : ℕ) (y : R) → IsPlace number n xs i → drop i xs ≡ y ∷ drop (i + 1) xs → n ≤ number y
here_from number n xs i y place rest = let all : AllByRecursion (λ r. n ≤ number r) (y ∷ drop (i + 1) xs) = subst (AllByRecursion (λ r. n ≤ number r)) rest place.from in all.0

after_above : {R : Type 0} (number : R → ℕ) (xs : List R) (i : ℕ) (y : R) → IsTable number xs → drop i xs ≡ y ∷ drop (i + 1) xs → AllByRecursion (λ r. number y < number r) (drop (i + 1) xs)
after_above number xs i y table rest = let all : IsTable number (y ∷ drop (i + 1) xs) = subst (IsTable number) rest (IsTable-drop number i xs table) in all.0

put_past : {R : Type 0} (number : R → ℕ) (r : R) (front rest : List R) → AllByRecursion (λ x. number x < number r) front → put number r (front ++ rest) ≡ front ++ put number r rest
put_past number r [] rest all = refl
put_past number r (x ∷ xs) rest all =
    let lt : number x < number r = all.0 in
    let a : ltb (number r) (number x) ≡ false = le-ltb (number r) (number x) (omega arith) in
    let b : eqb (number r) (number x) ≡ false = ne_eqb (number r) (number x) (λ e. omega arith) in
    rw a (rw b (ap (λ zs. x ∷ zs) (put_past number r xs rest all.1)))

split_put : {R : Type 0} (number : R → ℕ) (r : R) (xs : List R) (i : ℕ) → IsPlace number (number r) xs i → put number r xs ≡ take i xs ++ put number r (drop i xs)
split_put number r xs i place =
    ap (put number r) (sym (take-append-drop i xs)) ∙ put_past number r (take i xs) (drop i xs) place.before

pub put_end : {R : Type 0} (number : R → ℕ) (r : R) (xs : List R) (i : ℕ) → IsPlace number (number r) xs i → i ≡ length xs → insert xs i r ≡ put number r xs
put_end number r xs i place e =
    let none : drop i xs ≡ [] = drop_all i xs (omega arith) in
    ap (λ zs. take i xs ++ r ∷ zs) none ∙ sym (split_put number r xs i place ∙ ap (λ zs. take i xs ++ put number r zs) none)

pub put_between : {R : Type 0} (number : R → ℕ) (r : R) (xs : List R) (i : ℕ) (y : R) → IsPlace number (number r) xs i → i < length xs → y ≡ get_or xs i y → number y ≢ number r → insert xs i r ≡ put number r xs
put_between number r xs i y place lt is ne =
    let rest = split_here xs i y lt is in
    let above : number r ≤ number y = here_from number (number r) xs i y place rest in
    let a : ltb (number r) (number y) ≡ true = lt-ltb (number r) (number y) (omega arith) in
    let there : put number r (y ∷ drop (i + 1) xs) ≡ r ∷ y ∷ drop (i + 1) xs = rw a refl in
    ap (λ zs. take i xs ++ r ∷ zs) rest ∙ sym (split_put number r xs i place ∙ (ap (λ zs. take i xs ++ put number r zs) rest ∙ ap (λ zs. take i xs ++ zs) there))

pub put_over : {R : Type 0} (number : R → ℕ) (r : R) (xs : List R) (i : ℕ) (y : R) → IsPlace number (number r) xs i → i < length xs → y ≡ get_or xs i y → number y ≡ number r → set xs i r ≡ put number r xs
put_over number r xs i y place lt is same =
    let rest = split_here xs i y lt is in
    let a : ltb (number r) (number y) ≡ false = le-ltb (number r) (number y) (omega arith) in
    let b : eqb (number r) (number y) ≡ true = eq-eqb (number r) (number y) (sym same) in
    let there : put number r (y ∷ drop (i + 1) xs) ≡ r ∷ drop (i + 1) xs = rw a (rw b refl) in
    let split : set xs i r ≡ take i xs ++ r ∷ drop (i + 1) xs = set_split xs i r lt ∙ ap (λ n. take i xs ++ r ∷ drop n xs) (sym (add-one i)) in
    split ∙ sym (split_put number r xs i place ∙ (ap (λ zs. take i xs ++ put number r zs) rest ∙ ap (λ zs. take i xs ++ zs) there))

lookup_past : {R : Type 0} (number : R → ℕ) (n : ℕ) (front rest : List R) → AllByRecursion (λ x. number x < n) front → lookup number n (front ++ rest) ≡ lookup number n rest
lookup_past number n [] rest all = refl
lookup_past number n (x ∷ xs) rest all =
    let lt : number x < n = all.0 in
    let b : eqb (number x) n ≡ false = ne_eqb (number x) n (λ e. omega arith) in
    rw b (lookup_past number n xs rest all.1)

lookup_above : {R : Type 0} (number : R → ℕ) (n : ℕ) (xs : List R) → AllByRecursion (λ x. n < number x) xs → lookup number n xs ≡ None
lookup_above number n [] all = refl
lookup_above number n (x ∷ xs) all =
    let lt : n < number x = all.0 in
    let b : eqb (number x) n ≡ false = ne_eqb (number x) n (λ e. omega arith) in
    rw b (lookup_above number n xs all.1)

split_lookup : {R : Type 0} (number : R → ℕ) (n : ℕ) (xs : List R) (i : ℕ) → IsPlace number n xs i → lookup number n xs ≡ lookup number n (drop i xs)
split_lookup number n xs i place =
    ap (lookup number n) (sym (take-append-drop i xs)) ∙ lookup_past number n (take i xs) (drop i xs) place.before

pub lookup_end : {R : Type 0} (number : R → ℕ) (n : ℕ) (xs : List R) (i : ℕ) → IsPlace number n xs i → i ≡ length xs → lookup number n xs ≡ None
lookup_end number n xs i place e = split_lookup number n xs i place ∙ ap (lookup number n) (drop_all i xs (omega arith))

pub lookup_here : {R : Type 0} (number : R → ℕ) (n : ℕ) (xs : List R) (i : ℕ) (y : R) → IsPlace number n xs i → i < length xs → y ≡ get_or xs i y → number y ≡ n → lookup number n xs ≡ Some y
lookup_here number n xs i y place lt is same =
    let b : eqb (number y) n ≡ true = eq-eqb (number y) n same in
    let there : lookup number n (y ∷ drop (i + 1) xs) ≡ Some y = rw b refl in
    split_lookup number n xs i place ∙ (ap (lookup number n) (split_here xs i y lt is) ∙ there)

pub lookup_between : {R : Type 0} (number : R → ℕ) (n : ℕ) (xs : List R) (i : ℕ) (y : R) → IsTable number xs → IsPlace number n xs i → i < length xs → y ≡ get_or xs i y → number y ≢ n → lookup number n xs ≡ None
lookup_between number n xs i y table place lt is ne =
    let rest = split_here xs i y lt is in
    let above : n ≤ number y = here_from number n xs i y place rest in
    let less : n < number y = omega arith in
    let after = all_map (λ r. number y < number r) (λ r. n < number r) (λ r l. omega arith) (drop (i + 1) xs) (after_above number xs i y table rest) in
    split_lookup number n xs i place ∙ (ap (lookup number n) rest ∙ lookup_above number n (y ∷ drop (i + 1) xs) (less, after))

without_past : {R : Type 0} (number : R → ℕ) (n : ℕ) (front rest : List R) → AllByRecursion (λ x. number x < n) front → without number n (front ++ rest) ≡ front ++ without number n rest
without_past number n [] rest all = refl
without_past number n (x ∷ xs) rest all =
    let lt : number x < n = all.0 in
    let b : eqb (number x) n ≡ false = ne_eqb (number x) n (λ e. omega arith) in
    rw b (ap (λ zs. x ∷ zs) (without_past number n xs rest all.1))

without_above : {R : Type 0} (number : R → ℕ) (n : ℕ) (xs : List R) → AllByRecursion (λ x. n < number x) xs → without number n xs ≡ xs
without_above number n [] all = refl
without_above number n (x ∷ xs) all =
    let lt : n < number x = all.0 in
    let b : eqb (number x) n ≡ false = ne_eqb (number x) n (λ e. omega arith) in
    rw b (ap (λ zs. x ∷ zs) (without_above number n xs all.1))

split_without : {R : Type 0} (number : R → ℕ) (n : ℕ) (xs : List R) (i : ℕ) → IsPlace number n xs i → without number n xs ≡ take i xs ++ without number n (drop i xs)
split_without number n xs i place =
    ap (without number n) (sym (take-append-drop i xs)) ∙ without_past number n (take i xs) (drop i xs) place.before

pub without_end : {R : Type 0} (number : R → ℕ) (n : ℕ) (xs : List R) (i : ℕ) → IsPlace number n xs i → i ≡ length xs → xs ≡ without number n xs
without_end number n xs i place e =
    let none : drop i xs ≡ [] = drop_all i xs (omega arith) in
    sym (split_without number n xs i place ∙ (ap (λ zs. take i xs ++ without number n zs) none ∙ (ap (λ zs. take i xs ++ zs) (sym none) ∙ take-append-drop i xs)))

pub without_here : {R : Type 0} (number : R → ℕ) (n : ℕ) (xs : List R) (i : ℕ) (y : R) → IsTable number xs → IsPlace number n xs i → i < length xs → y ≡ get_or xs i y → number y ≡ n → remove xs i ≡ without number n xs
without_here number n xs i y table place lt is same =
    let rest = split_here xs i y lt is in
    let b : eqb (number y) n ≡ true = eq-eqb (number y) n same in
    let after = all_map (λ r. number y < number r) (λ r. n < number r) (λ r l. omega arith) (drop (i + 1) xs) (after_above number xs i y table rest) in
    let there : without number n (y ∷ drop (i + 1) xs) ≡ drop (i + 1) xs = rw b (without_above number n (drop (i + 1) xs) after) in
    ap (λ k. take i xs ++ drop k xs) (sym (add-one i))
    ∙ sym (split_without number n xs i place ∙ (ap (λ zs. take i xs ++ without number n zs) rest ∙ ap (λ zs. take i xs ++ zs) there))

pub without_between : {R : Type 0} (number : R → ℕ) (n : ℕ) (xs : List R) (i : ℕ) (y : R) → IsTable number xs → IsPlace number n xs i → i < length xs → y ≡ get_or xs i y → number y ≢ n → xs ≡ without number n xs
without_between number n xs i y table place lt is ne =
    let rest = split_here xs i y lt is in
    let above : n ≤ number y = here_from number n xs i y place rest in
    let less : n < number y = omega arith in
    let after = all_map (λ r. number y < number r) (λ r. n < number r) (λ r l. omega arith) (drop (i + 1) xs) (after_above number xs i y table rest) in
    sym (split_without number n xs i place
    ∙ (ap (λ zs. take i xs ++ without number n zs) rest
    ∙ (ap (λ zs. take i xs ++ zs) (without_above number n (y ∷ drop (i + 1) xs) (less, after))
    ∙ (ap (λ zs. take i xs ++ zs) (sym rest) ∙ take-append-drop i xs))))
