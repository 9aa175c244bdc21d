-- The dates in UTC that the product keeps and prints, and their texts (RFC 8620, 1.4; RFC 3339,
-- 5.6).
use Rattle.std.specs.Prelude.{◌≡◌, ℕ, zero, suc, ◌+◌, ◌*◌, ◌/◌, ◌%◌, ◌-◌, ◌≤◌, Bool, true, false, ◌&&◌, ◌||◌, ◌==◌, nat_le, ℤ, pos, ◌+ℤ◌, ◌-ℤ◌, ◌*ℤ◌, ◌≤ℤ◌, int_le, unsigned_abs, List, [], ◌∷◌, ◌++◌, take, drop, slice_index, bytes_eq, codes, if◌then◌else◌}
use Rattle.std.specs.Int.{int_div_euclid, int_rem_euclid}
use Rattle.std.specs.Fmt.{decimal}
use Rattle.jiff_core.specs.Calendar.{days_in_month, days_from_civil}
use Rattle.jm_base.specs.declared.identifiers.UtcDate.{UtcDate}
use Rattle.jm_base.specs.declared.utc_dates.TheConstants.{FIRST_TIMESTAMP, LAST_TIMESTAMP, LAST_YEAR}

-- A date of the years 0001 to 9999 (RFC 8620, 1.4; RFC 3339 has four digits for the year).
pub record IsUtcDate (date : UtcDate) : Type 0 where
  pub not_before : FIRST_TIMESTAMP ≤ℤ date.seconds
  pub not_after : date.seconds ≤ℤ pos LAST_TIMESTAMP

-- a day of the calendar and a time of day (RFC 3339, 5.6: date-time)
pub record DateTime : Type 0 where
  pub year : ℕ
  pub month : ℕ
  pub day : ℕ
  pub hour : ℕ
  pub minute : ℕ
  pub second : ℕ

-- a day that the calendar has, of the years 0001 to 9999
pub record IsDay (year month day : ℕ) : Type 0 where
  pub from_year : 1 ≤ year
  pub to_year : year ≤ LAST_YEAR
  pub from_month : 1 ≤ month
  pub to_month : month ≤ 12
  pub from_day : 1 ≤ day
  pub to_day : day ≤ days_in_month (pos year) month

-- a second of a day
pub record IsTime (hour minute second : ℕ) : Type 0 where
  pub to_hour : hour ≤ 23
  pub to_minute : minute ≤ 59
  pub to_second : second ≤ 59

-- a date-time of the years 0001 to 9999
pub record IsDateTime (c : DateTime) : Type 0 where
  pub day : IsDay c.year c.month c.day
  pub time : IsTime c.hour c.minute c.second

-- the timestamp of a date-time in UTC: seconds since the beginning of 1970
abbrev pub date_time_seconds : DateTime → ℤ
date_time_seconds c =
    days_from_civil (pos c.year) c.month c.day *ℤ pos 86400
    +ℤ pos (c.hour * 3600 + c.minute * 60 + c.second)

-- the greatest of the numbers from 1 to n for which this holds, or 0
unfoldable pub last_of : (ℕ → Bool) → ℕ → ℕ
last_of holds zero = zero
last_of holds (suc n) = if holds (suc n) then suc n else last_of holds n

-- the year, of 1 to `LAST_YEAR`, that has begun by a day since 1970
unfoldable pub year_of : ℤ → ℕ
year_of day = last_of (λ y. int_le (days_from_civil (pos y) 1 1) day) LAST_YEAR

-- the month of that year that has begun by then
unfoldable pub month_of : ℤ → ℕ
month_of day = last_of (λ m. int_le (days_from_civil (pos (year_of day)) m 1) day) 12

-- the day of that month
unfoldable pub day_of : ℤ → ℕ
day_of day = unsigned_abs (day -ℤ days_from_civil (pos (year_of day)) (month_of day) 1) + 1

-- the date-time in UTC so many days after the beginning of 1970, and so many seconds of the day
abbrev pub date_time_on : ℤ → ℕ → DateTime
date_time_on day seconds = record {
  year = year_of day;
  month = month_of day;
  day = day_of day;
  hour = seconds / 3600;
  minute = seconds / 60 % 60;
  second = seconds % 60;
}

-- the date-time in UTC of a timestamp
abbrev pub date_time_at : ℤ → DateTime
date_time_at seconds =
    date_time_on (int_div_euclid seconds (pos 86400))
    (unsigned_abs (int_rem_euclid seconds (pos 86400)))

-- the last two digits of a number
abbrev pub two_digits : ℕ → List ℕ
two_digits n = decimal (n / 10 % 10) ++ decimal (n % 10)

-- YYYY-MM-DD (RFC 3339, 5.6: full-date)
abbrev pub full_date_text : DateTime → List ℕ
full_date_text c =
    two_digits (c.year / 100) ++ two_digits c.year ++ codes "-" ++ two_digits c.month ++ codes "-"
    ++ two_digits c.day

-- HH:MM:SS (RFC 3339, 5.6: partial-time, without a fraction)
abbrev pub partial_time_text : DateTime → List ℕ
partial_time_text c =
    two_digits c.hour ++ codes ":" ++ two_digits c.minute ++ codes ":" ++ two_digits c.second

-- YYYY-MM-DDTHH:MM:SSZ
abbrev pub date_time_text : DateTime → List ℕ
date_time_text c = full_date_text c ++ codes "T" ++ partial_time_text c ++ codes "Z"

abbrev pub utc_text : UtcDate → List ℕ
utc_text date = date_time_text (date_time_at date.seconds)

abbrev pub is_digit : ℕ → Bool
is_digit b = nat_le 48 b && nat_le b 57

-- bytes that are a digit wherever the layout has a `0`, and elsewhere what the layout has
abbrev pub is_laid_out : List ℕ → List ℕ → Bool
is_laid_out [] [] = true
is_laid_out [] (b ∷ bs) = false
is_laid_out (l ∷ ls) [] = false
is_laid_out (l ∷ ls) (b ∷ bs) = (if l == 48 then is_digit b else b == l) && is_laid_out ls bs

-- the number of the two digits at a byte offset
abbrev pub two_at : ℕ → List ℕ → ℕ
two_at offset text = (slice_index text offset - 48) * 10 + (slice_index text (offset + 1) - 48)

-- what YYYY-MM-DDTHH:MM:SS names
abbrev pub date_time_in : List ℕ → DateTime
date_time_in text = record {
  year = two_at 0 text * 100 + two_at 2 text;
  month = two_at 5 text;
  day = two_at 8 text;
  hour = two_at 11 text;
  minute = two_at 14 text;
  second = two_at 17 text;
}

abbrev pub is_z : List ℕ → Bool
is_z text = bytes_eq text (codes "Z")

-- digits, at least one, and `Z`
abbrev pub ends_in_digits : List ℕ → Bool
ends_in_digits [] = false
ends_in_digits (b ∷ bs) = is_digit b && (is_z bs || ends_in_digits bs)

-- `Z`, perhaps after a point and digits
abbrev pub is_end : List ℕ → Bool
is_end [] = false
is_end (b ∷ bs) = is_z (b ∷ bs) || (b == 46 && ends_in_digits bs)

-- A text of a date: YYYY-MM-DDTHH:MM:SS, perhaps a fraction of a second, which counts for nothing,
-- and `Z`. The calendar has the day, and the day has the time.
pub record IsUtcText (text : List ℕ) (date : UtcDate) : Type 0 where
  pub laid_out : is_laid_out (codes "0000-00-00T00:00:00") (take 19 text) ≡ true
  pub ends : is_end (drop 19 text) ≡ true
  pub date_time : IsDateTime (date_time_in text)
  pub seconds : date.seconds ≡ date_time_seconds (date_time_in text)

-- the text of a date is a text of that date, and of no other
abbrev pub DatesReadBack : Type 0
DatesReadBack =
    (date : UtcDate) → IsUtcDate date
    → IsUtcText (utc_text date) date
    × ((other : UtcDate) → IsUtcText (utc_text date) other → other ≡ date)
