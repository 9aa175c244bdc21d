-- Finding in tables: the first record that passes a test is that of the least number.
use Rattle.std.proofs.Common.{◌≡◌, ℕ, ◌<◌, ◌≤◌, Bool, true, false, cond, eqb, List, [], ◌∷◌, find, Some, None, refl, sym, ap, ◌∙◌, subst, arith, ⊎_elim, eqb-true, eq-eqb, ne_eqb}
use Rattle.std.specs.List.{AllByRecursion}
use Rattle.std.proofs.lemmas.Bool.{cases_Bool, true≢false}
use Rattle.mail_records.specs.Tables.{IsTable, lookup}

pub some_same : {R : Type 0} (x y : R) → Some x ≡ Some y → x ≡ y
some_same x y e = cc

pub none_some : {R : Type 0} (x : R) {C : Type 0} → None ≡ Some x → C
none_some x e = absurd (cc)

-- a look-up in a list whose first record has another number, or this one
pub at_first : {R : Type 0} (number : R → ℕ) (n : ℕ) (r x : R) (rs : List R) → eqb (number r) n ≡ true → lookup number n (r ∷ rs) ≡ Some x → r ≡ x
at_first number n r x rs t e = some_same r x (subst (λ b. cond b (Some r) (lookup number n rs) ≡ Some x) t e)

pub at_rest : {R : Type 0} (number : R → ℕ) (n : ℕ) (r x : R) (rs : List R) → eqb (number r) n ≡ false → lookup number n (r ∷ rs) ≡ Some x → lookup number n rs ≡ Some x
at_rest number n r x rs t e = subst (λ b. cond b (Some r) (lookup number n rs) ≡ Some x) t e

-- a record of a list of records above m is above m
above : {R : Type 0} (number : R → ℕ) (m n : ℕ) (rows : List R) (x : R) → AllByRecursion (λ r. m < number r) rows → lookup number n rows ≡ Some x → m < number x
above number m n [] x all e = none_some x e
above number m n (r ∷ rs) x all e =
    ⊎_elim
    (λ (t : eqb (number r) n ≡ true). subst (λ z. m < number z) (at_first number n r x rs t e) all.0)
    (λ (t : eqb (number r) n ≡ false). above number m n rs x all.1 (at_rest number n r x rs t e))
    (cases_Bool (eqb (number r) n))

-- the first record is looked up
pub at_itself : {R : Type 0} (number : R → ℕ) (r : R) (rs : List R) → lookup number (number r) (r ∷ rs) ≡ Some r
at_itself number r rs = ap (λ b. cond b (Some r) (lookup number (number r) rs)) (eq-eqb (number r) (number r) refl)

-- a look-up in the rest of a table
pub past_first : {R : Type 0} (number : R → ℕ) (r y : R) (rs : List R) → AllByRecursion (λ x. number r < number x) rs
    → lookup number (number y) rs ≡ Some y → lookup number (number y) (r ∷ rs) ≡ Some y
past_first number r y rs all e =
    let less : number r < number y = above number (number r) (number y) rs y all e in
    let other : eqb (number r) (number y) ≡ false = ne_eqb (number r) (number y) (λ (same : number r ≡ number y). omega (arith, same, less)) in
    ap (λ b. cond b (Some r) (lookup number (number y) rs)) other ∙ e

-- the record of the least number that passes is found
pub find_least : {R : Type 0} (number : R → ℕ) (p : R → Bool) (rows : List R) (x : R) → IsTable number rows → lookup number (number x) rows ≡ Some x → p x ≡ true
    → ((y : R) → lookup number (number y) rows ≡ Some y → p y ≡ true → number x ≤ number y) → find p rows ≡ Some x
find_least number p [] x table e t least = none_some x e
find_least number p (r ∷ rs) x table e t least =
    ⊎_elim
    (λ (here : p r ≡ true).
    ap (λ b. cond b (Some r) (find p rs)) here
    ∙ ⊎_elim
    (λ (q : eqb (number r) (number x) ≡ true). ap Some (at_first number (number x) r x rs q e))
    (λ (q : eqb (number r) (number x) ≡ false).
    let less : number r < number x = above number (number r) (number x) rs x table.0 (at_rest number (number x) r x rs q e) in
    let le : number x ≤ number r = least r (at_itself number r rs) here in absurd (omega (arith, less, le)))
    (cases_Bool (eqb (number r) (number x))))
    (λ (away : p r ≡ false).
    ap (λ b. cond b (Some r) (find p rs)) away
    ∙ ⊎_elim
    (λ (q : eqb (number r) (number x) ≡ true). absurd (true≢false (sym t ∙ (ap p (sym (at_first number (number x) r x rs q e)) ∙ away))))
    (λ (q : eqb (number r) (number x) ≡ false).
    find_least number p rs x table.1 (at_rest number (number x) r x rs q e) t (λ y h py. least y (past_first number r y rs table.0 h) py))
    (cases_Bool (eqb (number r) (number x))))
    (cases_Bool (p r))

-- where no record passes none is found
pub find_none : {R : Type 0} (number : R → ℕ) (p : R → Bool) (rows : List R) → IsTable number rows
    → ((y : R) → lookup number (number y) rows ≡ Some y → p y ≡ false) → find p rows ≡ None
find_none number p [] table no_one = refl
find_none number p (r ∷ rs) table no_one =
    ap (λ b. cond b (Some r) (find p rs)) (no_one r (at_itself number r rs))
    ∙ find_none number p rs table.1 (λ y h. no_one y (past_first number r y rs table.0 h))

-- what is found is above what all are above
pub found_above : {R : Type 0} (number : R → ℕ) (p : R → Bool) (m : ℕ) (rows : List R) (x : R) → AllByRecursion (λ r. m < number r) rows → find p rows ≡ Some x → m < number x
found_above number p m [] x all e = none_some x e
found_above number p m (r ∷ rs) x all e =
    ⊎_elim
    (λ (t : p r ≡ true). subst (λ z. m < number z) (some_same r x (subst (λ b. cond b (Some r) (find p rs) ≡ Some x) t e)) all.0)
    (λ (t : p r ≡ false). found_above number p m rs x all.1 (subst (λ b. cond b (Some r) (find p rs) ≡ Some x) t e))
    (cases_Bool (p r))

-- a record that is found passes, is in the table, and no lesser one passes
pub record Least {R : Type 0} (number : R → ℕ) (p : R → Bool) (rows : List R) (x : R) : Type 0 where
  pub there : lookup number (number x) rows ≡ Some x
  pub passes : p x ≡ true
  pub least : (y : R) → lookup number (number y) rows ≡ Some y → p y ≡ true → number x ≤ number y

pub found_least : {R : Type 0} (number : R → ℕ) (p : R → Bool) (rows : List R) (x : R) → IsTable number rows → find p rows ≡ Some x → Least number p rows x
found_least number p [] x table e = none_some x e
found_least number p (r ∷ rs) x table e =
    ⊎_elim
    (λ (t : p r ≡ true).
    let same : r ≡ x = some_same r x (subst (λ b. cond b (Some r) (find p rs) ≡ Some x) t e) in
    let of_r : Least number p (r ∷ rs) r = record {
      there = at_itself number r rs;
      passes = t;
      least = λ y h py.
          ⊎_elim
          (λ (q : eqb (number r) (number y) ≡ true). let is : number r ≡ number y = eqb-true (number r) (number y) q in omega (arith, is))
          (λ (q : eqb (number r) (number y) ≡ false).
          let less : number r < number y = above number (number r) (number y) rs y table.0 (at_rest number (number y) r y rs q h) in omega (arith, less))
          (cases_Bool (eqb (number r) (number y)));
    } in
    subst (Least number p (r ∷ rs)) same of_r)
    (λ (t : p r ≡ false).
    let rec = found_least number p rs x table.1 (subst (λ b. cond b (Some r) (find p rs) ≡ Some x) t e) in record {
      there = past_first number r x rs table.0 rec.there;
      passes = rec.passes;
      least = λ y h py.
          ⊎_elim
          (λ (q : eqb (number r) (number y) ≡ true). absurd (true≢false (sym py ∙ (ap p (sym (at_first number (number y) r y rs q h)) ∙ t))))
          (λ (q : eqb (number r) (number y) ≡ false). rec.least y (at_rest number (number y) r y rs q h) py)
          (cases_Bool (eqb (number r) (number y)));
    })
    (cases_Bool (p r))

-- tests that agree find the same
pub find_same : {R : Type 0} (p q : R → Bool) → ((x : R) → p x ≡ q x) → (rows : List R) → find p rows ≡ find q rows
find_same p q same [] = refl
find_same p q same (r ∷ rs) =
    ap (λ b. cond b (Some r) (find p rs)) (same r) ∙ ap (λ o. cond (q r) (Some r) o) (find_same p q same rs)

-- a test that nothing passes finds none
pub find_never : {R : Type 0} (p : R → Bool) → ((x : R) → p x ≡ false) → (rows : List R) → find p rows ≡ None
find_never p never [] = refl
find_never p never (r ∷ rs) = ap (λ b. cond b (Some r) (find p rs)) (never r) ∙ find_never p never rs
