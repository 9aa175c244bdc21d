use Rattle.std.proofs.Common.{◌≡◌, ℤ, pos, negsuc, refl, arith, ◌*ℤ◌, ◌+ℤ◌, ◌≤ℤ◌, w64, to_z, of_z, FitsSigned}
use Rattle.std.proofs.lemmas.Int.{to_z-of_z}
use Rattle.jiff_core.proofs.SignedLemmas.{signed_arith}
use Rattle.jm_base.proofs.Days.{day_bounds}
use Rattle.jm_base.proofs.utc_dates.find_seconds.Goals as goal

-- the numbers of a day and of a second of it, and of both, fit
pub record Fitting (day second : ℤ) : Type 0 where
  pub day_fits : FitsSigned w64 day
  pub second_fits : FitsSigned w64 second
  pub product_fits : FitsSigned w64 (day *ℤ pos 86400)
  pub sum_fits : FitsSigned w64 (day *ℤ pos 86400 +ℤ second)
  pub not_before : negsuc 62135596799 ≤ℤ (day *ℤ pos 86400 +ℤ second)
  pub not_after : (day *ℤ pos 86400 +ℤ second) ≤ℤ pos 253402300799

fitting : (day second : ℤ) → (negsuc 719161 ≤ℤ day) × (day ≤ℤ pos 2932896) → (pos 0 ≤ℤ second) × (second ≤ℤ pos 86399) → Fitting day second
fitting day second d s = record {
  day_fits = omega (arith, signed_arith, d);
  second_fits = omega (arith, signed_arith, s);
  product_fits = omega (arith, signed_arith, d);
  sum_fits = omega (arith, signed_arith, d, s);
  not_before = omega (arith, signed_arith, d, s);
  not_after = omega (arith, signed_arith, d, s);
}

seconds_are : (day second : ℤ) → Fitting day second → to_z w64 (of_z w64 (to_z w64 (of_z w64 (to_z w64 (of_z w64 day) *ℤ pos 86400)) +ℤ to_z w64 (of_z w64 second))) ≡ day *ℤ pos 86400 +ℤ second
seconds_are day second f =
    rw (to_z-of_z w64 day f.day_fits, to_z-of_z w64 second f.second_fits) (rw (to_z-of_z w64 (day *ℤ pos 86400) f.product_fits) (to_z-of_z w64 (day *ℤ pos 86400 +ℤ second) f.sum_fits))

pub overflow_mul-result : goal.overflow_mul-result
overflow_mul-result c =
    let d = c.in-Some.ensures in
    let f = fitting c.in-Some.day c.in-Some-find_second.second (rw (d.1) (day_bounds _ _ _ d.0)) c.in-Some-find_second.ensures.bound in
    rw (to_z-of_z w64 c.in-Some.day f.day_fits) f.product_fits

pub overflow_add-result : goal.overflow_add-result
overflow_add-result c =
    let d = c.in-Some.ensures in
    let s = c.in-Some-find_second.second in
    let f = fitting c.in-Some.day s (rw (d.1) (day_bounds _ _ _ d.0)) c.in-Some-find_second.ensures.bound in
    rw (to_z-of_z w64 c.in-Some.day f.day_fits, to_z-of_z w64 s f.second_fits) (rw (to_z-of_z w64 (c.in-Some.day *ℤ pos 86400) f.product_fits) f.sum_fits)

pub returns-clause-bound : goal.returns-clause-bound
returns-clause-bound c =
    let d = c.in-Some.ensures in
    let s = c.in-Some-find_second.second in
    let f = fitting c.in-Some.day s (rw (d.1) (day_bounds _ _ _ d.0)) c.in-Some-find_second.ensures.bound in
    rw (seconds_are c.in-Some.day s f) (f.not_before, f.not_after)

pub returns-clause-value : goal.returns-clause-value
returns-clause-value c =
    let d = c.in-Some.ensures in
    let s = c.in-Some-find_second.ensures in
    let f = fitting c.in-Some.day c.in-Some-find_second.second (rw (d.1) (day_bounds _ _ _ d.0)) s.bound in
    rw (seconds_are c.in-Some.day c.in-Some-find_second.second f, ← c.read_two_digits.ensures.value, ← c.read_two_digits-2.ensures.value, ← c.read_two_digits-3.ensures.value, ← c.read_two_digits-4.ensures.value, ← c.read_two_digits-5.ensures.value, ← c.read_two_digits-6.ensures.value, ← c.read_two_digits-7.ensures.value)
    (record { day = d.0; time = s.value.0 }, rw (← d.1, ← s.value.1) refl)
