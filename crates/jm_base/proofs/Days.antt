-- The year, the month and the day of the month that a day since 1970 lies in.
use Rattle.std.proofs.Common.{◌≡◌, ℕ, zero, suc, ◌-◌, ◌<◌, ◌≤◌, inl, inr, Bool, true, false, refl, sym, arith, ℤ, pos, negsuc, ◌-ℤ◌, ◌<ℤ◌, ◌≤ℤ◌, int_le, unsigned_abs}
use Rattle.std.proofs.lemmas.Bool.{cases_order}
use Rattle.std.proofs.lemmas.Int.{by_lt_z}
use Rattle.jiff_core.specs.Calendar.{day_count, days_from_civil, IsCivilDate}
use Rattle.jiff_core.proofs.SignedLemmas.{signed_arith}
use Rattle.jiff_core.proofs.MarchLemmas.{day_count-early}
use Rattle.jiff_core.proofs.CalendarLemmas.{days_from_civil-day_count, day_count-lt_year, day_count-lt_month, day_count-day, day_count-day_of_year, day_count_bounds}
use Rattle.jm_base.specs.UtcDates.{last_of, year_of, month_of, day_of, IsDay}

pub le_as : (a b : ℤ) (t : Bool) → int_le a b ≡ t → a ≤ℤ b → t ≡ true
le_as a b true same le = refl
le_as a b false same le = absurd (omega (arith, signed_arith, same, le))

pub gt_as : (a b : ℤ) (t : Bool) → int_le a b ≡ t → b <ℤ a → t ≡ false
gt_as a b false same gt = refl
gt_as a b true same gt = absurd (omega (arith, signed_arith, same, gt))

pub le_is : (a b : ℤ) → a ≤ℤ b → int_le a b ≡ true
le_is a b le = le_as a b (int_le a b) refl le

gt_is : (a b : ℤ) → b <ℤ a → int_le a b ≡ false
gt_is a b gt = gt_as a b (int_le a b) refl gt

-- the greatest number is the one above which none holds
pub last_of_is : (holds : ℕ → Bool) (n : ℕ) (bound : ℕ) → 1 ≤ n → n ≤ bound → holds n ≡ true → ((k : ℕ) → n < k → k ≤ bound → holds k ≡ false) → last_of holds bound ≡ n
unfolding last_of
last_of_is holds n zero some within here above = absurd (omega arith)
last_of_is holds n (suc bound) some within here above =
    elim (cases_order n (suc bound)) [
      | inl same ↦ rw (← same) (rw here refl)
      | inr (inl lt) ↦ rw (above (suc bound) lt (omega arith)) (last_of_is holds n bound some (omega arith) here (λ k gt to. above k gt (omega arith)))
      | inr (inr gt) ↦ absurd (omega arith)
    ]

pub day_count-first : day_count (pos 1) 1 1 ≡ 3_652_791
day_count-first = day_count-early (pos 1) 10000 1 1 refl (omega arith) (omega arith) (omega arith)

-- a civil date of the years 1 to 9999 begins its year, its month and no later one
year_here : (y m d : ℕ) → IsCivilDate (pos y) m d → int_le (days_from_civil (pos y) 1 1) (days_from_civil (pos y) m d) ≡ true
year_here y m d is = le_is (days_from_civil (pos y) 1 1) (days_from_civil (pos y) m d) (omega (arith, signed_arith, days_from_civil-day_count (pos y) 1 1, days_from_civil-day_count (pos y) m d, day_count-day_of_year (pos y) m d is.2.0))

year_above : (y m d k : ℕ) → IsCivilDate (pos y) m d → y < k → int_le (days_from_civil (pos k) 1 1) (days_from_civil (pos y) m d) ≡ false
year_above y m d k is lt =
    let later : pos y <ℤ pos k = omega (arith, signed_arith) in
    gt_is (days_from_civil (pos k) 1 1) (days_from_civil (pos y) m d) (omega (arith, signed_arith, days_from_civil-day_count (pos k) 1 1, days_from_civil-day_count (pos y) m d, day_count-lt_year (pos y) m d (pos k) 1 1 is (omega arith) later))

pub year_is : (y m d : ℕ) → IsCivilDate (pos y) m d → 1 ≤ y → y ≤ 9999 → year_of (days_from_civil (pos y) m d) ≡ y
unfolding year_of
year_is y m d is from to = last_of_is _ y 9999 from to (year_here y m d is) (λ k gt in_it. year_above y m d k is gt)

month_here : (y : ℤ) (m d : ℕ) → IsCivilDate y m d → int_le (days_from_civil y m 1) (days_from_civil y m d) ≡ true
month_here y m d is = le_is (days_from_civil y m 1) (days_from_civil y m d) (omega (arith, signed_arith, days_from_civil-day_count y m 1, days_from_civil-day_count y m d, day_count-day y m d 1 is.2.0 (omega arith), is.2.0))

month_above : (y : ℤ) (m d k : ℕ) → IsCivilDate y m d → m < k → int_le (days_from_civil y k 1) (days_from_civil y m d) ≡ false
month_above y m d k is lt =
    gt_is (days_from_civil y k 1) (days_from_civil y m d) (omega (arith, signed_arith, days_from_civil-day_count y k 1, days_from_civil-day_count y m d, day_count-lt_month y m d k 1 is (omega arith) lt))

pub month_is : (y m d : ℕ) → IsCivilDate (pos y) m d → 1 ≤ y → y ≤ 9999 → month_of (days_from_civil (pos y) m d) ≡ m
unfolding month_of
month_is y m d is from to =
    rw (year_is y m d is from to) (last_of_is _ m 12 is.1.0 is.1.1 (month_here (pos y) m d is) (λ k gt in_it. month_above (pos y) m d k is gt))

pub day_is : (y m d : ℕ) → IsCivilDate (pos y) m d → 1 ≤ y → y ≤ 9999 → day_of (days_from_civil (pos y) m d) ≡ d
unfolding day_of
day_is y m d is from to =
    let gone : days_from_civil (pos y) m d -ℤ days_from_civil (pos y) m 1 ≡ pos (d - 1) = omega (arith, signed_arith, days_from_civil-day_count (pos y) m 1, days_from_civil-day_count (pos y) m d, day_count-day (pos y) m d 1 is.2.0 (omega arith), is.2.0) in
    rw (year_is y m d is from to, month_is y m d is from to, gone) (omega (arith, is.2.0))

-- a day from that of 0001-01-01 on is of a year from 1 on
pub year_from_one : (y : ℤ) (m d : ℕ) → IsCivilDate y m d → negsuc 719161 ≤ℤ days_from_civil y m d → pos 1 ≤ℤ y
year_from_one y m d is from =
    by_lt_z y (pos 1)
    (λ lt. absurd (omega (arith, signed_arith, from, day_count-first, days_from_civil-day_count y m d, day_count-lt_year y m d (pos 1) 1 1 is (omega arith) lt)))
    (λ ge. ge)

-- the parts of a date by its day number
pub civil_of : (day y : ℤ) (m d : ℕ) → IsCivilDate y m d → y ≤ℤ pos 9999 → negsuc 719161 ≤ℤ day → days_from_civil y m d ≡ day → (unsigned_abs y ≡ year_of day) × (m ≡ month_of day) × (d ≡ day_of day)
civil_of day (pos y) m d is to from same =
    let one : pos 1 ≤ℤ pos y = year_from_one (pos y) m d is (rw same from) in
    let low : 1 ≤ y = omega (arith, signed_arith, one) in
    let high : y ≤ 9999 = omega (arith, signed_arith, to) in
    rw (← same) (sym (year_is y m d is low high), sym (month_is y m d is low high), sym (day_is y m d is low high))
civil_of day (negsuc y) m d is to from same =
    let one : pos 1 ≤ℤ negsuc y = year_from_one (negsuc y) m d is (rw same from) in
    absurd (omega (arith, signed_arith, one))

civil_from : (y m d : ℕ) → IsDay y m d → IsCivilDate (pos y) m d
civil_from y m d is = omega (arith, signed_arith, is.from_year, is.to_year, is.from_month, is.to_month, is.from_day, is.to_day)

first_year : (m d : ℕ) → 1 ≤ d → day_count (pos 1) 1 1 ≤ day_count (pos 1) m d
first_year m d from = omega (arith, day_count-day_of_year (pos 1) m d from)

first_days : (y m d : ℕ) → IsCivilDate (pos y) m d → 1 ≤ y → day_count (pos 1) 1 1 ≤ day_count (pos y) m d
first_days y m d is from =
    elim (cases_order 1 y) [
      | inl same ↦ rw (← same) (first_year m d is.2.0)
      | inr (inl lt) ↦ omega (arith, day_count-lt_year (pos 1) 1 1 (pos y) m d (omega (arith, signed_arith)) is.2.0 (omega (arith, signed_arith, lt)))
      | inr (inr gt) ↦ absurd (omega (arith, gt, from))
    ]

-- the days of the years 0001 to 9999
pub day_bounds : (y m d : ℕ) → IsDay y m d → (negsuc 719161 ≤ℤ days_from_civil (pos y) m d) × (days_from_civil (pos y) m d ≤ℤ pos 2932896)
day_bounds y m d is =
    let civil = civil_from y m d is in
    omega (arith, signed_arith, days_from_civil-day_count (pos y) m d, day_count-first, first_days y m d civil is.from_year, day_count_bounds (pos y) m d civil)
