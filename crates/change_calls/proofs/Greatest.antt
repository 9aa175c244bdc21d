-- The greatest number that passes.
use Rattle.std.proofs.Common.{◌≡◌, ℕ, zero, suc, ◌<◌, ◌≤◌, Bool, true, false, Some, None, refl, sym, ap, ◌∙◌, subst, arith, ⊎_elim, ◌⊎◌, inl, inr}
use Rattle.std.proofs.lemmas.Bool.{cases_Bool, cases_eq, true≢false}
use Rattle.std.proofs.lemmas.Option.{none-some, same_Some}
use Rattle.change_calls.specs.Changes.{greatest_upto}

-- p is the greatest number up to n that passes
pub record IsGreatest (test : ℕ → Bool) (n p : ℕ) : Type 0 where
  pub within : p ≤ n
  pub passes : test p ≡ true
  pub greatest : (k : ℕ) → p < k → k ≤ n → test k ≡ false

pub greatest_is : (test : ℕ → Bool) (n p : ℕ) → IsGreatest test n p → greatest_upto test n ≡ Some p
greatest_is test zero p is =
    let same : p ≡ 0 = let le = is.within in omega arith in
    let pass : test 0 ≡ true = subst (λ k. test k ≡ true) same is.passes in
    rw pass (ap Some (sym same))
greatest_is test (suc n) p is =
    ⊎_elim
    (λ (same : p ≡ suc n). let pass : test (suc n) ≡ true = subst (λ k. test k ≡ true) same is.passes in rw pass (ap Some (sym same)))
    (λ (other : p ≡ suc n → ⊥).
    let le = is.within in
    let lt : p < suc n = omega arith in
    let fail : test (suc n) ≡ false = is.greatest (suc n) lt (omega arith) in
    rw fail (greatest_is test n p (record { within = omega arith; passes = is.passes; greatest = λ k above below. is.greatest k above (omega arith) })))
    (cases_eq p (suc n))

-- where none passes there is none
pub greatest_none : (test : ℕ → Bool) (n : ℕ) → ((k : ℕ) → k ≤ n → test k ≡ false) → greatest_upto test n ≡ None
greatest_none test zero all = let fail = all 0 (omega arith) in rw fail refl
greatest_none test (suc n) all = let fail = all (suc n) (omega arith) in rw fail (greatest_none test n (λ k le. all k (omega arith)))

-- where some number passes there is a greatest one
pub greatest_exists : (test : ℕ → Bool) (n k : ℕ) → k ≤ n → test k ≡ true → (p : ℕ) × IsGreatest test n p
greatest_exists test zero k le pass =
    let same : k ≡ 0 = omega arith in
    (0, record { within = omega arith; passes = subst (λ j. test j ≡ true) same pass; greatest = λ j above below. absurd (omega arith) })
greatest_exists test (suc n) k le pass =
    ⊎_elim
    (λ (t : test (suc n) ≡ true). (suc n, record { within = omega arith; passes = t; greatest = λ j above below. absurd (omega arith) }))
    (λ (t : test (suc n) ≡ false).
    let low : k ≤ n = lower t in
    let rest = greatest_exists test n k low pass in (
      rest.0,
      record {
        within = let le2 = rest.1.within in omega arith;
        passes = rest.1.passes;
        greatest = λ j above below. at_or_below t rest.1 j above below (cases_eq j (suc n));
      },
    ))
    (cases_Bool (test (suc n)))
  where
    lower : test (suc n) ≡ false → k ≤ n
    lower t = ⊎_elim (λ (same : k ≡ suc n). absurd (true≢false (sym pass ∙ (ap test same ∙ t)))) (λ (other : k ≡ suc n → ⊥). omega arith) (cases_eq k (suc n))

    at_or_below : test (suc n) ≡ false → {p : ℕ} → IsGreatest test n p → (j : ℕ) → p < j → j ≤ suc n → (j ≡ suc n) ⊎ (j ≡ suc n → ⊥) → test j ≡ false
    at_or_below t is j above below (inl same) = ap test same ∙ t
    at_or_below t is j above below (inr other) = is.greatest j above (omega arith)

-- what is found passes
pub greatest_passes : (test : ℕ → Bool) (n p : ℕ) → greatest_upto test n ≡ Some p → (p ≤ n) × (test p ≡ true)
greatest_passes test zero p is =
    ⊎_elim
    (λ (t : test 0 ≡ true). let same : 0 ≡ p = same_Some 0 p (rw t at is) in (omega arith, subst (λ k. test k ≡ true) same t))
    (λ (t : test 0 ≡ false). absurd (none-some p (rw t at is)))
    (cases_Bool (test 0))
greatest_passes test (suc n) p is =
    ⊎_elim
    (λ (t : test (suc n) ≡ true). let same : suc n ≡ p = same_Some (suc n) p (rw t at is) in (omega arith, subst (λ k. test k ≡ true) same t))
    (λ (t : test (suc n) ≡ false). let rest = greatest_passes test n p (rw t at is) in let le = rest.0 in (omega arith, rest.1))
    (cases_Bool (test (suc n)))
