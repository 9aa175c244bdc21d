-- What a put and a removal change in a table.
use Rattle.std.proofs.Common.{◌≡◌, ℕ, ◌<◌, ◌≤◌, arith, not, Bool, true, false, cond, eqb, ltb, List, [], ◌∷◌, filter, map, Some, None, refl, sym, ap, ◌∙◌, subst, ⊎_elim, eq-eqb}
use Rattle.std.specs.List.{AllByRecursion}
use Rattle.std.proofs.lemmas.Bool.{cases_Bool, ne_eqb, eqb-true, eqb-false, ltb-true, ltb-false}
use Rattle.mail_records.specs.Tables.{IsTable, lookup, put, without}

-- the record that is put is at its number
pub lookup-put_same : {R : Type 0} (number : R → ℕ) (r : R) (n : ℕ) → number r ≡ n → (xs : List R) → lookup number n (put number r xs) ≡ Some r
lookup-put_same number r n e [] = let t : eqb (number r) n ≡ true = eq-eqb (number r) n e in rw t refl
lookup-put_same number r n e (x ∷ xs) =
    let t : eqb (number r) n ≡ true = eq-eqb (number r) n e in
    ⊎_elim
    (λ (lt : ltb (number r) (number x) ≡ true). rw lt (rw t refl))
    (λ (lt : ltb (number r) (number x) ≡ false).
    rw lt
    (⊎_elim
    (λ (s : eqb (number r) (number x) ≡ true). rw s (rw t refl))
    (λ (s : eqb (number r) (number x) ≡ false).
    rw s
    (let other : eqb (number x) n ≡ false = ne_eqb (number x) n (λ w. eqb-false (number r) (number x) s (e ∙ sym w)) in
    rw other (lookup-put_same number r n e xs)))
    (cases_Bool (eqb (number r) (number x)))))
    (cases_Bool (ltb (number r) (number x)))

-- at other numbers nothing changes
pub lookup-put_other : {R : Type 0} (number : R → ℕ) (r : R) (n : ℕ) → eqb (number r) n ≡ false → (xs : List R) → lookup number n (put number r xs) ≡ lookup number n xs
lookup-put_other number r n t [] = rw t refl
lookup-put_other number r n t (x ∷ xs) =
    ⊎_elim
    (λ (lt : ltb (number r) (number x) ≡ true). rw lt (rw t refl))
    (λ (lt : ltb (number r) (number x) ≡ false).
    rw lt
    (⊎_elim
    (λ (s : eqb (number r) (number x) ≡ true).
    rw s
    (let other : eqb (number x) n ≡ false = subst (λ z. eqb z n ≡ false) (eqb-true (number r) (number x) s) t in
    rw t (rw other refl)))
    (λ (s : eqb (number r) (number x) ≡ false).
    rw s (ap (λ o. cond (eqb (number x) n) (Some x) o) (lookup-put_other number r n t xs)))
    (cases_Bool (eqb (number r) (number x)))))
    (cases_Bool (ltb (number r) (number x)))

pub lookup-without_other : {R : Type 0} (number : R → ℕ) (m n : ℕ) → eqb m n ≡ false → (xs : List R) → lookup number n (without number m xs) ≡ lookup number n xs
lookup-without_other number m n t [] = refl
lookup-without_other number m n t (x ∷ xs) =
    ⊎_elim
    (λ (s : eqb (number x) m ≡ true).
    rw s
    (let other : eqb (number x) n ≡ false = subst (λ z. eqb z n ≡ false) (sym (eqb-true (number x) m s)) t in
    rw other (lookup-without_other number m n t xs)))
    (λ (s : eqb (number x) m ≡ false).
    rw s (ap (λ o. cond (eqb (number x) n) (Some x) o) (lookup-without_other number m n t xs)))
    (cases_Bool (eqb (number x) m))

pub lookup-without_same : {R : Type 0} (number : R → ℕ) (n : ℕ) → (xs : List R) → lookup number n (without number n xs) ≡ None
lookup-without_same number n [] = refl
lookup-without_same number n (x ∷ xs) =
    ⊎_elim
    (λ (s : eqb (number x) n ≡ true). rw s (lookup-without_same number n xs))
    (λ (s : eqb (number x) n ≡ false). rw s (rw s (lookup-without_same number n xs)))
    (cases_Bool (eqb (number x) n))

-- what holds of each record
pub All-put : {R : Type 0} (P : R → Type 0) (number : R → ℕ) (r : R) → P r → (xs : List R) → AllByRecursion P xs → AllByRecursion P (put number r xs)
All-put P number r p [] all = (p, tt)
All-put P number r p (x ∷ xs) all =
    ⊎_elim
    (λ (lt : ltb (number r) (number x) ≡ true). rw lt (p, all))
    (λ (lt : ltb (number r) (number x) ≡ false).
    rw lt
    (⊎_elim
    (λ (s : eqb (number r) (number x) ≡ true). rw s (p, all.1))
    (λ (s : eqb (number r) (number x) ≡ false). rw s (all.0, All-put P number r p xs all.1))
    (cases_Bool (eqb (number r) (number x)))))
    (cases_Bool (ltb (number r) (number x)))

pub All-kept : {R : Type 0} (P : R → Type 0) (test : R → Bool) (xs : List R) → AllByRecursion P xs → AllByRecursion P (filter test xs)
All-kept P test [] all = tt
All-kept P test (x ∷ xs) all =
    ⊎_elim
    (λ (k : test x ≡ true). rw k (all.0, All-kept P test xs all.1))
    (λ (k : test x ≡ false). rw k (All-kept P test xs all.1))
    (cases_Bool (test x))

-- a put of a record that does not pass, in the place of none that passes, leaves what passes
pub filter-put : {R : Type 0} (number : R → ℕ) (test : R → Bool) (r : R) → test r ≡ false → (xs : List R) → AllByRecursion (λ x. number r ≡ number x → test x ≡ false) xs → filter test (put number r xs) ≡ filter test xs
filter-put number test r away [] all = rw away refl
filter-put number test r away (x ∷ xs) all =
    ⊎_elim
    (λ (lt : ltb (number r) (number x) ≡ true). rw lt (rw away refl))
    (λ (lt : ltb (number r) (number x) ≡ false).
    rw lt
    (⊎_elim
    (λ (s : eqb (number r) (number x) ≡ true).
    rw s
    (let other : test x ≡ false = all.0 (eqb-true (number r) (number x) s) in
    rw away (rw other refl)))
    (λ (s : eqb (number r) (number x) ≡ false).
    rw s (ap (λ zs. cond (test x) (x ∷ zs) zs) (filter-put number test r away xs all.1)))
    (cases_Bool (eqb (number r) (number x)))))
    (cases_Bool (ltb (number r) (number x)))

pub filter-without : {R : Type 0} (number : R → ℕ) (test : R → Bool) (n : ℕ) (xs : List R) → AllByRecursion (λ x. number x ≡ n → test x ≡ false) xs → filter test (without number n xs) ≡ filter test xs
filter-without number test n [] all = refl
filter-without number test n (x ∷ xs) all =
    ⊎_elim
    (λ (s : eqb (number x) n ≡ true).
    rw s
    (let other : test x ≡ false = all.0 (eqb-true (number x) n s) in
    rw other (filter-without number test n xs all.1)))
    (λ (s : eqb (number x) n ≡ false).
    rw s (ap (λ zs. cond (test x) (x ∷ zs) zs) (filter-without number test n xs all.1)))
    (cases_Bool (eqb (number x) n))

all_above : {R : Type 0} (number : R → ℕ) (m n : ℕ) → m ≤ n → (xs : List R) → AllByRecursion (λ x. n < number x) xs → AllByRecursion (λ x. m < number x) xs
all_above number m n le [] all = tt
all_above number m n le (x ∷ xs) all = ((let lt = all.0 in omega arith), all_above number m n le xs all.1)

pub IsTable-put : {R : Type 0} (number : R → ℕ) (r : R) (xs : List R) → IsTable number xs → IsTable number (put number r xs)
IsTable-put number r [] table = (tt, tt)
IsTable-put number r (x ∷ xs) table =
    ⊎_elim
    (λ (lt : ltb (number r) (number x) ≡ true).
    let less = ltb-true (number r) (number x) lt in
    rw lt ((less, all_above number (number r) (number x) (omega arith) xs table.0), table))
    (λ (lt : ltb (number r) (number x) ≡ false).
    rw lt
    (⊎_elim
    (λ (s : eqb (number r) (number x) ≡ true).
    let same = eqb-true (number r) (number x) s in
    rw s (all_above number (number r) (number x) (omega arith) xs table.0, table.1))
    (λ (s : eqb (number r) (number x) ≡ false).
    let other = eqb-false (number r) (number x) s in
    let most = ltb-false (number r) (number x) lt in
    let above : number x < number r = pos_from other most in
    rw s (All-put (λ y. number x < number y) number r above xs table.0, IsTable-put number r xs table.1))
    (cases_Bool (eqb (number r) (number x)))))
    (cases_Bool (ltb (number r) (number x)))
  where
    pos_from : (number r ≡ number x → ⊥) → number x ≤ number r → number x < number r
    pos_from n le = omega arith

pub IsTable-without : {R : Type 0} (number : R → ℕ) (n : ℕ) (xs : List R) → IsTable number xs → IsTable number (without number n xs)
IsTable-without number n [] table = tt
IsTable-without number n (x ∷ xs) table =
    ⊎_elim
    (λ (s : eqb (number x) n ≡ true). rw s (IsTable-without number n xs table.1))
    (λ (s : eqb (number x) n ≡ false). rw s (All-kept (λ y. number x < number y) (λ y. not (eqb (number y) n)) xs table.0, IsTable-without number n xs table.1))
    (cases_Bool (eqb (number x) n))

-- what is made of each record has its number
pub IsTable-map : {R S : Type 0} (number : R → ℕ) (key : S → ℕ) (f : R → S) → ((x : R) → key (f x) ≡ number x) → (xs : List R) → IsTable number xs → IsTable key (map f xs)
IsTable-map number key f same [] table = tt
IsTable-map {R} {S} number key f same (x ∷ xs) table = (above xs table.0, IsTable-map number key f same xs table.1)
  where
    above : (ys : List R) → AllByRecursion (λ y. number x < number y) ys → AllByRecursion (λ z. key (f x) < key z) (map f ys)
    above [] all = tt
    above (y ∷ ys) all = (let one = same x in let other = same y in let lt = all.0 in omega (arith, one, other, lt), above ys all.1)

-- A function over a table's records that keeps their numbers goes through a put and a removal.
pub map_put : {R S : Type 0} (number : R → ℕ) (key : S → ℕ) (f : R → S) → ((x : R) → key (f x) ≡ number x) → (r : R) (xs : List R)
    → map f (put number r xs) ≡ put key (f r) (map f xs)
map_put number key f same r [] = refl
map_put number key f same r (x ∷ xs) =
    rw (same r)
    (rw (same x)
    (⊎_elim
    (λ (lt : ltb (number r) (number x) ≡ true). rw lt refl)
    (λ (lt : ltb (number r) (number x) ≡ false).
    rw lt
    (⊎_elim
    (λ (s : eqb (number r) (number x) ≡ true). rw s refl)
    (λ (s : eqb (number r) (number x) ≡ false). rw s (ap (λ zs. f x ∷ zs) (map_put number key f same r xs)))
    (cases_Bool (eqb (number r) (number x)))))
    (cases_Bool (ltb (number r) (number x)))))

pub map_without : {R S : Type 0} (number : R → ℕ) (key : S → ℕ) (f : R → S) → ((x : R) → key (f x) ≡ number x) → (n : ℕ) (xs : List R)
    → map f (without number n xs) ≡ without key n (map f xs)
map_without number key f same n [] = refl
map_without number key f same n (x ∷ xs) =
    rw (same x)
    (⊎_elim
    (λ (s : eqb (number x) n ≡ true). rw s (map_without number key f same n xs))
    (λ (s : eqb (number x) n ≡ false). rw s (ap (λ zs. f x ∷ zs) (map_without number key f same n xs)))
    (cases_Bool (eqb (number x) n)))
