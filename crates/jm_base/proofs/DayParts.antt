-- The year, the month and the day of a day number are a day of the calendar.
use Rattle.std.proofs.Common.{◌≡◌, ℕ, zero, suc, ◌+◌, ◌<◌, ◌≤◌, inl, inr, Bool, true, false, refl, sym, ap, ◌∙◌, arith, ℤ, pos, negsuc, ◌-ℤ◌, ◌+ℤ◌, ◌<ℤ◌, ◌≤ℤ◌, int_le, unsigned_abs}
use Rattle.std.proofs.lemmas.Bool.{cases_order}
use Rattle.std.proofs.lemmas.Int.{by_lt_z}
use Rattle.jiff_core.specs.Calendar.{day_count, days_from_civil, days_in_month, days_in_year}
use Rattle.jiff_core.proofs.SignedLemmas.{signed_arith}
use Rattle.jiff_core.proofs.CalendarLemmas.{days_from_civil-day_count, day_count-next_year, day_count-next_month, day_count-last_of_year, day_count-end, day_count-day}
use Rattle.jm_base.proofs.Days.{le_as, gt_as, le_is, day_count-first}
use Rattle.jm_base.specs.UtcDates.{last_of, year_of, month_of, day_of, IsDay}

-- what the greatest number of a test says, if the test holds of 1
pub record IsLast (holds : ℕ → Bool) (bound n : ℕ) : Type 0 where
  pub from_one : 1 ≤ n
  pub within : n ≤ bound
  pub here : holds n ≡ true
  pub above : (k : ℕ) → n < k → k ≤ bound → holds k ≡ false

later_bound : (holds : ℕ → Bool) (bound n : ℕ) → IsLast holds bound n → holds (suc bound) ≡ false → IsLast holds (suc bound) n
later_bound holds bound n is failing = record {
  from_one = is.from_one;
  within = omega (arith, is.within);
  here = is.here;
  above = λ k gt to. elim (cases_order k (suc bound)) [
    | inl same ↦ ap holds same ∙ failing
    | inr (inl lt) ↦ is.above k gt (omega (arith, lt))
    | inr (inr more) ↦ absurd (omega (arith, more, to))
  ];
}

at_bound : (holds : ℕ → Bool) (bound : ℕ) → holds (suc bound) ≡ true → IsLast holds (suc bound) (suc bound)
at_bound holds bound holding = record {
  from_one = omega arith;
  within = omega arith;
  here = holding;
  above = λ k gt to. absurd (omega (arith, gt, to));
}

last_by : (holds : ℕ → Bool) (bound : ℕ) (t : Bool) → holds (suc bound) ≡ t → (t ≡ false → IsLast holds bound (last_of holds bound)) → IsLast holds (suc bound) (last_of holds (suc bound))
unfolding last_of
last_by holds bound true holding less = rw holding (at_bound holds bound holding)
last_by holds bound false failing less = rw failing (later_bound holds bound (last_of holds bound) (less refl) failing)

pub last_of_last : (holds : ℕ → Bool) (bound : ℕ) → 1 ≤ bound → holds 1 ≡ true → IsLast holds bound (last_of holds bound)
last_of_last holds zero some first = absurd (omega (arith, some))
last_of_last holds (suc zero) some first = last_by holds 0 true first (λ e. absurd (cc))
last_of_last holds (suc (suc bound)) some first =
    last_by holds (suc bound) (holds (suc (suc bound))) refl (λ failing. last_of_last holds (suc bound) (omega arith) first)

le_from : (a b : ℤ) → int_le a b ≡ true → a ≤ℤ b
le_from a b holding = by_lt_z b a (λ lt. absurd (let failing = gt_as a b (int_le a b) refl lt in cc)) (λ ge. ge)

lt_from : (a b : ℤ) → int_le a b ≡ false → b <ℤ a
lt_from a b failing = by_lt_z b a (λ lt. lt) (λ ge. absurd (let holding = le_as a b (int_le a b) refl ge in cc))

-- ---- the year, the month and the day of a day

year_last : (day : ℤ) → negsuc 719161 ≤ℤ day → IsLast (λ y. int_le (days_from_civil (pos y) 1 1) day) 9999 (year_of day)
unfolding year_of
year_last day from = last_of_last _ 9999 (omega arith) (le_is _ day (omega (arith, signed_arith, from, days_from_civil-day_count (pos 1) 1 1, day_count-first)))

-- a day is before the end of its year
record IsInYear (day : ℤ) (y : ℕ) : Type 0 where
  pub from : days_from_civil (pos y) 1 1 ≤ℤ day
  pub to : day <ℤ days_from_civil (pos (suc y)) 1 1

in_year : (day : ℤ) (y : ℕ) → IsLast (λ k. int_le (days_from_civil (pos k) 1 1) day) 9999 y → day ≤ℤ pos 2932896 → IsInYear day y
in_year day y is to = record {
  from = le_from _ _ is.here;
  to = elim (cases_order y 9999) [
    | inl same ↦ rw same (omega (arith, signed_arith, to, days_from_civil-day_count (pos 10000) 1 1, day_count-end))
    | inr (inl lt) ↦ lt_from _ _ (is.above (suc y) (omega arith) (omega (arith, lt)))
    | inr (inr more) ↦ absurd (omega (arith, more, is.within))
  ];
}

month_last : (day : ℤ) → IsInYear day (year_of day) → IsLast (λ m. int_le (days_from_civil (pos (year_of day)) m 1) day) 12 (month_of day)
unfolding month_of
month_last day is = last_of_last _ 12 (omega arith) (le_is _ day is.from)

next_year : (y : ℕ) → day_count (pos (suc y)) 1 1 ≡ day_count (pos y) 1 1 + days_in_year (pos y)
next_year y = day_count-next_year (pos y) (pos (suc y)) (omega (arith, signed_arith)) (omega (arith, signed_arith))

december : (y : ℕ) → day_count (pos (suc y)) 1 1 ≡ day_count (pos y) 12 1 + days_in_month (pos y) 12
december y = omega (arith, next_year y, day_count-last_of_year (pos y), day_count-day (pos y) 12 31 1 (omega arith) (omega arith))

-- a day is before the end of its month
record IsInMonth (day : ℤ) (y m : ℕ) : Type 0 where
  pub from : days_from_civil (pos y) m 1 ≤ℤ day
  pub to : day <ℤ (days_from_civil (pos y) m 1 +ℤ pos (days_in_month (pos y) m))

in_month : (day : ℤ) (y m : ℕ) → IsLast (λ k. int_le (days_from_civil (pos y) k 1) day) 12 m → IsInYear day y → IsInMonth day y m
in_month day y m is year = record {
  from = le_from _ _ is.here;
  to = elim (cases_order m 12) [
    | inl same ↦ rw same (omega (arith, signed_arith, year.to, december y, days_from_civil-day_count (pos (suc y)) 1 1, days_from_civil-day_count (pos y) 12 1))
    | inr (inl lt) ↦ omega (arith, signed_arith, lt_from (days_from_civil (pos y) (m + 1) 1) day (is.above (m + 1) (omega arith) (omega (arith, lt))), day_count-next_month (pos y) m is.from_one, days_from_civil-day_count (pos y) (m + 1) 1, days_from_civil-day_count (pos y) m 1)
    | inr (inr more) ↦ absurd (omega (arith, more, is.within))
  ];
}

-- the day of the month, by how many days have gone since its first
record IsDayOf (day : ℤ) (y m d : ℕ) : Type 0 where
  pub from_one : 1 ≤ d
  pub within : d ≤ days_in_month (pos y) m
  pub same : days_from_civil (pos y) m d ≡ day

day_since : (day : ℤ) (y m gone : ℕ) → day -ℤ days_from_civil (pos y) m 1 ≡ pos gone → IsInMonth day y m → IsDayOf day y m (gone + 1)
day_since day y m gone same is = record {
  from_one = omega arith;
  within = omega (arith, signed_arith, same, is.to);
  same = omega (arith, signed_arith, same, days_from_civil-day_count (pos y) m 1, days_from_civil-day_count (pos y) m (gone + 1), day_count-day (pos y) m (gone + 1) 1 (omega arith) (omega arith));
}

day_here : (day : ℤ) (y m : ℕ) (z : ℤ) → z ≡ day -ℤ days_from_civil (pos y) m 1 → IsInMonth day y m → IsDayOf day y m (unsigned_abs z + 1)
day_here day y m (pos gone) same is = day_since day y m gone (sym same) is
day_here day y m (negsuc gone) same is = absurd (omega (arith, signed_arith, same, is.from))

day_last : (day : ℤ) → IsInMonth day (year_of day) (month_of day) → IsDayOf day (year_of day) (month_of day) (day_of day)
unfolding day_of
day_last day is = day_here day (year_of day) (month_of day) _ refl is

-- the parts of a day are a day of the calendar, and that day
pub record HasParts (day : ℤ) (y m d : ℕ) : Type 0 where
  pub is : IsDay y m d
  pub same : days_from_civil (pos y) m d ≡ day

pub parts_of_day : (day : ℤ) → negsuc 719161 ≤ℤ day → day ≤ℤ pos 2932896 → HasParts day (year_of day) (month_of day) (day_of day)
parts_of_day day from to =
    let year = year_last day from in
    let in_the_year = in_year day (year_of day) year to in
    let month = month_last day in_the_year in
    let here = day_last day (in_month day (year_of day) (month_of day) month in_the_year) in
    record {
      is = record {
        from_year = year.from_one;
        to_year = year.within;
        from_month = month.from_one;
        to_month = month.within;
        from_day = here.from_one;
        to_day = here.within;
      };
      same = here.same;
    }
