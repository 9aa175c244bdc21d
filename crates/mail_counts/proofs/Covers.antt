-- What is listed of the records of some numbers is what is listed of all records, where the others have nothing to list.
use Rattle.std.proofs.Common.{◌≡◌, ℕ, ◌<◌, ◌≤◌, true, false, ◌||◌, cond, eqb, ltb, List, [], ◌∷◌, ◌++◌, Some, None, refl, sym, ap, ap₂, ◌∙◌, subst, arith, ⊎_elim, eqb-true, eq-eqb, ne_eqb}
use Rattle.std.specs.List.{AllByRecursion, flat_map}
use Rattle.std.specs.List.Sorted.{IsStrictlySortedBy}
use Rattle.std.specs.declared.cmp.Ordering.TheVariants.{Less}
use Rattle.std.specs.Ordering.{nat_cmp}
use Rattle.std.proofs.lemmas.Cmp.{ranked}
use Rattle.std.proofs.lemmas.Bool.{cases_Bool, true≢false, eqb-false, ltb-true, ltb-false}
use Rattle.mail_records.specs.Tables.{IsTable, lookup}
use Rattle.mail_records.proofs.Rising.{all_map}
use Rattle.mail_counts.specs.Overlay.{all_listed, listed_at}
use Rattle.mail_counts.specs.Touched.{is_one_of}

less_lt : (x y : ℕ) → nat_cmp x y ≡ Less → x < y
less_lt x y e = ranked x y Less (sym e)

-- numbers that rise, as a table of themselves
pub table_of_numbers : (ns : List ℕ) → IsStrictlySortedBy nat_cmp ns → IsTable (λ (n : ℕ). n) ns
unfolding IsStrictlySortedBy
table_of_numbers [] rise = tt
table_of_numbers (n ∷ ns) rise = (all_map (λ y. nat_cmp n y ≡ Less) (λ y. n < y) (λ y l. less_lt n y l) ns rise.0, table_of_numbers ns rise.1)

not_among : (n : ℕ) (ns : List ℕ) → AllByRecursion (λ y. n < y) ns → is_one_of ns n ≡ false
not_among n [] all = refl
not_among n (x ∷ xs) all =
    let lt : n < x = all.0 in
    let away : eqb x n ≡ false = ne_eqb x n (λ e. omega arith) in rw away (not_among n xs all.1)

module _ {R B : Type 0} (number : R → ℕ) (f : R → List B) where
  abbrev HasNothing : List R → List ℕ → Type 0
  HasNothing rows ns = (r : R) → lookup number (number r) rows ≡ Some r → is_one_of ns (number r) ≡ false → f r ≡ []

  lookup_below : (n : ℕ) (rows : List R) → AllByRecursion (λ r. n < number r) rows → lookup number n rows ≡ None
  lookup_below n [] all = refl
  lookup_below n (r ∷ rs) all =
      let lt : n < number r = all.0 in
      let away : eqb (number r) n ≡ false = ne_eqb (number r) n (λ e. omega arith) in rw away (lookup_below n rs all.1)

  -- of the rows after one, whose numbers are above it
  lookup_after : (r : R) (rs : List R) (n : ℕ) → number r < n → lookup number n (r ∷ rs) ≡ lookup number n rs
  lookup_after r rs n lt =
      let away : eqb (number r) n ≡ false = ne_eqb (number r) n (λ e. omega arith) in rw away refl

  lookup_first : (r : R) (rs : List R) → lookup number (number r) (r ∷ rs) ≡ Some r
  lookup_first r rs = let here : eqb (number r) (number r) ≡ true = eq-eqb (number r) (number r) refl in rw here refl

  -- numbers above a row's don't find it
  listed_after : (r : R) (rs : List R) (ns : List ℕ) → AllByRecursion (λ n. number r < n) ns → all_listed number f (r ∷ rs) ns ≡ all_listed number f rs ns
  listed_after r rs [] all = refl
  listed_after r rs (n ∷ ns) all =
      ap₂ (λ o zs. listed_at f o ++ zs) (lookup_after r rs n all.0) (listed_after r rs ns all.1)

  found_above : (m : ℕ) (rows : List R) (r : R) → AllByRecursion (λ x. m < number x) rows → lookup number (number r) rows ≡ Some r → m < number r
  found_above m [] r all e = absurd (cc)
  found_above m (x ∷ xs) r all e =
      ⊎_elim
      (λ (t : eqb (number x) (number r) ≡ true). let same = eqb-true (number x) (number r) t in let lt : m < number x = all.0 in omega arith)
      (λ (t : eqb (number x) (number r) ≡ false). found_above m xs r all.1 (subst (λ b. cond b (Some x) (lookup number (number r) xs) ≡ Some r) t e))
      (cases_Bool (eqb (number x) (number r)))

  none_listed : (ns : List ℕ) → all_listed number f [] ns ≡ []
  none_listed [] = refl
  none_listed (n ∷ ns) = none_listed ns

  -- the others of the rows have nothing to list where they have none in the rows with one more before them
  rest_nothing : (r : R) (rs : List R) (ns ms : List ℕ) → AllByRecursion (λ x. number r < number x) rs → HasNothing (r ∷ rs) ns
      → ((k : ℕ) → number r < k → is_one_of ms k ≡ false → is_one_of ns k ≡ false) → HasNothing rs ms
  rest_nothing r rs ns ms above nothing more x there away =
      let lt = found_above (number r) rs x above there in
      nothing x (lookup_after r rs (number x) lt ∙ there) (more (number x) lt away)

  pub covers : (rows : List R) (ns : List ℕ) → IsTable number rows → IsTable (λ (n : ℕ). n) ns → HasNothing rows ns
      → all_listed number f rows ns ≡ flat_map f rows
  covers [] ns table rise nothing = none_listed ns
  covers (r ∷ rs) ns table rise nothing = step (λ ms up none. covers rs ms table.1 up none) ns rise nothing
    where
      step : ((ms : List ℕ) → IsTable (λ (n : ℕ). n) ms → HasNothing rs ms → all_listed number f rs ms ≡ flat_map f rs) → (ms : List ℕ) → IsTable (λ (n : ℕ). n) ms → HasNothing (r ∷ rs) ms → all_listed number f (r ∷ rs) ms ≡ f r ++ flat_map f rs
      step rec [] up none =
          sym (ap (λ zs. zs ++ flat_map f rs) (none r (lookup_first r rs) refl)
          ∙ sym (rec [] tt (rest_nothing r rs [] [] table.0 none (λ k lt e. e))))
      step rec (m ∷ ms) up none =
          ⊎_elim
          (λ (t : ltb m (number r) ≡ true).
          let lt = ltb-true m (number r) t in
          let away : eqb (number r) m ≡ false = ne_eqb (number r) m (λ e. omega arith) in
          let low : AllByRecursion (λ x. m < number x) rs = all_map (λ x. number r < number x) (λ x. m < number x) (λ x l. omega arith) rs table.0 in
          let gone : lookup number m (r ∷ rs) ≡ None = rw away (lookup_below m rs low) in
          ap (λ o. listed_at f o ++ all_listed number f (r ∷ rs) ms) gone
          ∙ step rec ms up.1
          (λ x there e. none x there
          (let above : m < number x = found_above m (r ∷ rs) x (lt, low) there in
          let other : eqb m (number x) ≡ false = ne_eqb m (number x) (λ w. omega arith) in rw other e)))
          (λ (t : ltb m (number r) ≡ false).
          let le = ltb-false m (number r) t in
          ⊎_elim
          (λ (s : eqb (number r) m ≡ true).
          let same : number r ≡ m = eqb-true (number r) m s in
          let here : lookup number m (r ∷ rs) ≡ Some r = rw s refl in
          let above : AllByRecursion (λ n. number r < n) ms = subst (λ k. AllByRecursion (λ n. k < n) ms) (sym same) up.0 in
          ap₂ (λ o zs. listed_at f o ++ zs) here (listed_after r rs ms above)
          ∙ ap (λ zs. f r ++ zs)
          (rec ms up.1
          (rest_nothing r rs (m ∷ ms) ms table.0 none
          (λ k lt e. let other : eqb m k ≡ false = ne_eqb m k (λ w. omega arith) in rw other e))))
          (λ (s : eqb (number r) m ≡ false).
          let other = eqb-false (number r) m s in
          let lt : number r < m = strictly other le in
          let all : AllByRecursion (λ n. number r < n) (m ∷ ms) = (lt, all_map (λ n. m < n) (λ n. number r < n) (λ n l. omega arith) ms up.0) in
          listed_after r rs (m ∷ ms) all
          ∙ (rec (m ∷ ms) up (rest_nothing r rs (m ∷ ms) (m ∷ ms) table.0 none (λ k l e. e))
          ∙ ap (λ zs. zs ++ flat_map f rs) (sym (none r (lookup_first r rs) (not_among (number r) (m ∷ ms) all)))))
          (cases_Bool (eqb (number r) m)))
          (cases_Bool (ltb m (number r)))
        where
          strictly : (number r ≡ m → ⊥) → number r ≤ m → number r < m
          strictly n l = omega arith
