-- What a search in a table knows of the records around the place of a number.
use Rattle.std.proofs.Common.{◌≡◌, ℕ, ◌+◌, ◌<◌, ◌≤◌, true, false, eqb, List, [], ◌∷◌, ◌++◌, Some, take, drop, length, get_or, zero, suc, refl, sym, ap, ◌∙◌, subst, arith, ne_eqb, eq-eqb}
use Rattle.std.specs.List.{AllByRecursion}
use Rattle.std.proofs.lemmas.List.{take-append-le, drop-append-le, drop_all, length-append}
use Rattle.mail_records.specs.Tables.{IsFrom, IsPlace, IsTable, lookup}
use Rattle.mail_records.proofs.Places.{IsNonDecreasingBy-from_table, all_at, all_back, all_front, all_map}

all_append : {R : Type 0} (P : R → Type 0) (xs ys : List R) → AllByRecursion P xs → AllByRecursion P ys → AllByRecursion P (xs ++ ys)
all_append P [] ys a b = b
all_append P (x ∷ xs) ys a b = (a.0, all_append P xs ys a.1 b)

-- the record at an index has at least this number more than what all numbers are above
rises : {R : Type 0} (number : R → ℕ) (m i : ℕ) (xs : List R) → IsTable number xs → AllByRecursion (λ r. m ≤ number r) xs → AllByRecursion (λ r. m + i ≤ number r) (drop i xs)
rises number m zero xs table all = all_map (λ r. m ≤ number r) (λ r. m + zero ≤ number r) (λ r le. omega arith) xs all
rises number m (suc i) [] table all = tt
rises number m (suc i) (x ∷ xs) table all =
    let least : m ≤ number x = all.0 in
    let above = all_map (λ r. number x < number r) (λ r. suc m ≤ number r) (λ r lt. omega arith) xs table.0 in
    all_map (λ r. suc m + i ≤ number r) (λ r. m + suc i ≤ number r) (λ r le. omega arith) (drop i xs) (rises number (suc m) i xs table.1 above)

any_from_zero : {R : Type 0} (number : R → ℕ) (xs : List R) → AllByRecursion (λ r. 0 ≤ number r) xs
any_from_zero number [] = tt
any_from_zero number (x ∷ xs) = (omega arith, any_from_zero number xs)

-- the records from the index n on
pub from_number : {R : Type 0} (number : R → ℕ) (n : ℕ) (xs : List R) → IsTable number xs → n ≤ length xs → IsFrom number n xs n
from_number number n xs table le = record {
  within = le;
  from = all_map (λ r. 0 + n ≤ number r) (λ r. n ≤ number r) (λ r l. omega arith) (drop n xs) (rises number 0 n xs table (any_from_zero number xs));
}

pub from_end : {R : Type 0} (number : R → ℕ) (n : ℕ) (xs : List R) (i : ℕ) → i ≡ length xs → IsFrom number n xs i
from_end number n xs i e = record {
  within = omega arith;
  from = subst (AllByRecursion (λ r. n ≤ number r)) (sym (drop_all i xs (omega arith))) tt;
}

-- the record at an index is not below n: nor are those after it
pub from_record : {R : Type 0} (number : R → ℕ) (n : ℕ) (xs : List R) (i : ℕ) (y : R) → IsTable number xs → i < length xs → y ≡ get_or xs i y → n ≤ number y → IsFrom number n xs i
from_record number n xs i y table lt is le = record {
  within = omega arith;
  from = all_back (λ r. n ≤ number r) i xs (λ k d a b.
      let one : number (get_or xs i d) ≤ number (get_or xs k d) = IsNonDecreasingBy-from_table number xs table i k d a b in
      let same : number y ≡ number (get_or xs i d) = ap number (is ∙ get_any xs i y d lt) in
      omega arith);
}
  where
    get_any : {R : Type 0} (xs : List R) (i : ℕ) (c d : R) → i < length xs → get_or xs i c ≡ get_or xs i d
    get_any [] i c d lt = absurd (omega arith)
    get_any (x ∷ xs) zero c d lt = refl
    get_any (x ∷ xs) (suc i) c d lt = get_any xs i c d (omega arith)

-- the record at an index is below n: so are those before it
pub before_record : {R : Type 0} (number : R → ℕ) (n : ℕ) (xs : List R) (i : ℕ) (y : R) → IsTable number xs → i < length xs → y ≡ get_or xs i y → number y < n → AllByRecursion (λ r. number r < n) (take i xs)
before_record number n xs i y table lt is less =
    all_front (λ r. number r < n) i xs (omega arith) (λ k d a b.
    let one : number (get_or xs k d) ≤ number (get_or xs i d) = IsNonDecreasingBy-from_table number xs table k i d (omega arith) lt in
    let same : number y ≡ number (get_or xs i d) = ap number (is ∙ get_any xs i y d lt) in
    omega arith)
  where
    get_any : {R : Type 0} (xs : List R) (i : ℕ) (c d : R) → i < length xs → get_or xs i c ≡ get_or xs i d
    get_any [] i c d lt = absurd (omega arith)
    get_any (x ∷ xs) zero c d lt = refl
    get_any (x ∷ xs) (suc i) c d lt = get_any xs i c d (omega arith)

-- the place in the records before some that are not below n
extended : {R : Type 0} (number : R → ℕ) (n : ℕ) (xs ys : List R) (i : ℕ) → IsPlace number n xs i → AllByRecursion (λ r. n ≤ number r) ys → IsPlace number n (xs ++ ys) i
extended number n xs ys i place all =
    let within = place.within in
    let long = length-append xs ys in
    record {
      within = omega arith;
      before = subst (AllByRecursion (λ r. number r < n)) (sym (take-append-le i xs ys within)) place.before;
      from = subst (AllByRecursion (λ r. n ≤ number r)) (sym (drop-append-le i xs ys within)) (all_append (λ r. n ≤ number r) (drop i xs) ys place.from all);
    }

-- the place in the records after some that are below n
shifted : {R : Type 0} (number : R → ℕ) (n : ℕ) (xs ys : List R) (i k : ℕ) → k ≡ length xs + i → AllByRecursion (λ r. number r < n) xs → IsPlace number n ys i → IsPlace number n (xs ++ ys) k
shifted number n [] ys i k e all place = let same : i ≡ k = omega arith in subst (λ j. IsPlace number n ys j) same place
shifted number n (x ∷ xs) ys i zero e all place = absurd (omega arith)
shifted number n (x ∷ xs) ys i (suc k) e all place =
    let on : IsPlace number n (xs ++ ys) k = shifted number n xs ys i k (omega arith) all.1 place in
    let w = on.within in
    record { within = omega arith; before = (all.0, on.before); from = on.from }

-- the place among the records from low to high, where those before are below n and those after aren't
pub place_among : {R : Type 0} (number : R → ℕ) (n : ℕ) (xs front ys back : List R) (low i : ℕ) → xs ≡ front ++ (ys ++ back) → low ≡ length front
    → AllByRecursion (λ r. number r < n) front → AllByRecursion (λ r. n ≤ number r) back → IsPlace number n ys i → IsPlace number n xs (low + i)
place_among number n xs front ys back low i e len below above place =
    subst (λ zs. IsPlace number n zs (low + i)) (sym e) (shifted number n front (ys ++ back) i (low + i) (omega arith) below (extended number n ys back i place above))

-- a record at any index that has the number is the one of the number
pub lookup_at : {R : Type 0} (number : R → ℕ) (n : ℕ) (xs : List R) (i : ℕ) (y : R) → IsTable number xs → i < length xs → y ≡ get_or xs i y → number y ≡ n → lookup number n xs ≡ Some y
lookup_at number n [] i y table lt is same = absurd (omega arith)
lookup_at number n (x ∷ xs) zero y table lt is same =
    let here : eqb (number x) n ≡ true = eq-eqb (number x) n (sym (ap number is) ∙ same) in
    rw here (ap (λ z. Some z) (sym is))
lookup_at number n (x ∷ xs) (suc i) y table lt is same =
    let above : number x < number (get_or xs i y) = all_at (λ r. number x < number r) xs table.0 i y (omega arith) in
    let here : number y ≡ number (get_or xs i y) = ap number is in
    let other : eqb (number x) n ≡ false = ne_eqb (number x) n (λ e. omega arith) in
    rw other (lookup_at number n xs i y table.1 (omega arith) is same)

-- ---- a part of a table

all_of_front : {R : Type 0} (P : R → Type 0) (xs ys : List R) → AllByRecursion P (xs ++ ys) → AllByRecursion P xs
all_of_front P [] ys all = tt
all_of_front P (x ∷ xs) ys all = (all.0, all_of_front P xs ys all.1)

table_front : {R : Type 0} (number : R → ℕ) (xs ys : List R) → IsTable number (xs ++ ys) → IsTable number xs
table_front number [] ys table = tt
table_front number (x ∷ xs) ys table = (all_of_front (λ r. number x < number r) xs ys table.0, table_front number xs ys table.1)

table_back : {R : Type 0} (number : R → ℕ) (xs ys : List R) → IsTable number (xs ++ ys) → IsTable number ys
table_back number [] ys table = table
table_back number (x ∷ xs) ys table = table_back number xs ys table.1

pub table_part : {R : Type 0} (number : R → ℕ) (front ys back : List R) → IsTable number (front ++ (ys ++ back)) → IsTable number ys
table_part number front ys back table = table_front number ys back (table_back number front (ys ++ back) table)
