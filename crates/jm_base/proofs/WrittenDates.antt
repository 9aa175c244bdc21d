-- The text of a date is laid out as a date, and what it names is that date.
use Rattle.std.proofs.Common.{◌≡◌, ℕ, ◌+◌, ◌-◌, ◌*◌, ◌/◌, ◌%◌, ◌<◌, ◌≤◌, true, refl, sym, ap, subst, ◌∙◌, arith, List, [], ◌∷◌, codes, take, drop, ℤ, pos, negsuc, ◌+ℤ◌, ◌*ℤ◌, ◌≤ℤ◌, unsigned_abs}
use Rattle.std.specs.Int.{int_div_euclid, int_rem_euclid}
use Rattle.std.proofs.lemmas.Bool.{le-leb}
use Rattle.std.proofs.lemmas.Fmt.{decimal_digit}
use Rattle.jiff_core.specs.Calendar.{days_from_civil, days_in_month}
use Rattle.jiff_core.proofs.CalendarLemmas.{days_in_month_bounds}
use Rattle.jiff_core.proofs.SignedLemmas.{signed_arith}
use Rattle.jm_base.proofs.DayParts.{parts_of_day}
use Rattle.jm_base.specs.UtcDates.{DateTime, IsTime, IsDateTime, IsUtcDate, IsUtcText, date_time_in, date_time_on, date_time_seconds, date_time_text, is_digit, is_end, is_laid_out, two_digits, utc_text}
use Rattle.jm_base.specs.declared.identifiers.UtcDate.{UtcDate}

-- ---- the bytes of a text

two_digits_are : (n : ℕ) → two_digits n ≡ (48 + n / 10 % 10) ∷ (48 + n % 10) ∷ []
two_digits_are n = rw (decimal_digit (n / 10 % 10) (omega arith), decimal_digit (n % 10) (omega arith)) refl

-- the bytes of YYYY-MM-DDTHH:MM:SSZ, by the digits
abbrev bytes_by : (a b c d e f g h i j k l m n : ℕ) → List ℕ
bytes_by a b c d e f g h i j k l m n =
    (48 + a) ∷ (48 + b) ∷ (48 + c) ∷ (48 + d) ∷ 45 ∷ (48 + e) ∷ (48 + f) ∷ 45 ∷ (48 + g) ∷ (48 + h) ∷ 84
    ∷ (48 + i) ∷ (48 + j) ∷ 58 ∷ (48 + k) ∷ (48 + l) ∷ 58 ∷ (48 + m) ∷ (48 + n) ∷ 90 ∷ []

abbrev bytes_of : (c : DateTime) → List ℕ
bytes_of c =
    bytes_by (c.year / 100 / 10 % 10) (c.year / 100 % 10) (c.year / 10 % 10) (c.year % 10) (c.month / 10 % 10) (c.month % 10) (c.day / 10 % 10) (c.day % 10)
    (c.hour / 10 % 10) (c.hour % 10) (c.minute / 10 % 10) (c.minute % 10) (c.second / 10 % 10) (c.second % 10)

text_is : (c : DateTime) → date_time_text c ≡ bytes_of c
text_is c =
    rw (two_digits_are (c.year / 100), two_digits_are c.year, two_digits_are c.month, two_digits_are c.day, two_digits_are c.hour, two_digits_are c.minute, two_digits_are c.second) refl

digit_is : (a : ℕ) → a ≤ 9 → is_digit (48 + a) ≡ true
digit_is a le = rw (le-leb 48 (48 + a) (omega arith), le-leb (48 + a) 57 (omega (arith, le))) refl

bytes_laid_out : (a b c d e f g h i j k l m n : ℕ) → a ≤ 9 → b ≤ 9 → c ≤ 9 → d ≤ 9 → e ≤ 9 → f ≤ 9 → g ≤ 9 → h ≤ 9 → i ≤ 9 → j ≤ 9 → k ≤ 9 → l ≤ 9 → m ≤ 9 → n ≤ 9
    → is_laid_out (codes "0000-00-00T00:00:00") (take 19 (bytes_by a b c d e f g h i j k l m n)) ≡ true
bytes_laid_out a b c d e f g h i j k l m n a9 b9 c9 d9 e9 f9 g9 h9 i9 j9 k9 l9 m9 n9 =
    rw (digit_is a a9, digit_is b b9, digit_is c c9, digit_is d d9, digit_is e e9, digit_is f f9, digit_is g g9, digit_is h h9, digit_is i i9, digit_is j j9, digit_is k k9, digit_is l l9, digit_is m m9, digit_is n n9) refl

laid_out : (c : DateTime) → is_laid_out (codes "0000-00-00T00:00:00") (take 19 (date_time_text c)) ≡ true
laid_out c =
    rw (text_is c)
    (bytes_laid_out (c.year / 100 / 10 % 10) (c.year / 100 % 10) (c.year / 10 % 10) (c.year % 10) (c.month / 10 % 10) (c.month % 10) (c.day / 10 % 10) (c.day % 10)
    (c.hour / 10 % 10) (c.hour % 10) (c.minute / 10 % 10) (c.minute % 10) (c.second / 10 % 10) (c.second % 10)
    (omega arith) (omega arith) (omega arith) (omega arith) (omega arith) (omega arith) (omega arith) (omega arith) (omega arith) (omega arith) (omega arith) (omega arith) (omega arith) (omega arith))

ends : (c : DateTime) → is_end (drop 19 (date_time_text c)) ≡ true
ends c = rw (text_is c) refl

-- ---- what the bytes name

two_back : (n : ℕ) → n ≤ 99 → ((48 + n / 10 % 10) - 48) * 10 + ((48 + n % 10) - 48) ≡ n
two_back n le = omega (arith, le)

year_back : (n : ℕ) → n ≤ 9999 → (((48 + n / 100 / 10 % 10) - 48) * 10 + ((48 + n / 100 % 10) - 48)) * 100 + (((48 + n / 10 % 10) - 48) * 10 + ((48 + n % 10) - 48)) ≡ n
year_back n le = omega (arith, le)

names_it : (c : DateTime) → c.year ≤ 9999 → c.month ≤ 99 → c.day ≤ 99 → c.hour ≤ 99 → c.minute ≤ 99 → c.second ≤ 99 → date_time_in (date_time_text c) ≡ c
names_it c year month day hour minute second =
    ap date_time_in (text_is c)
    ∙ (λ i. record {
      year = year_back c.year year i;
      month = two_back c.month month i;
      day = two_back c.day day i;
      hour = two_back c.hour hour i;
      minute = two_back c.minute minute i;
      second = two_back c.second second i;
    })

-- ---- a date

time_of : (s : ℕ) → s < 86400 → IsTime (s / 3600) (s / 60 % 60) (s % 60)
time_of s lt = record { to_hour = omega (arith, lt); to_minute = omega arith; to_second = omega arith }

-- a date-time that the calendar has, and the day and the seconds of the day
record IsOf (c : DateTime) (day : ℤ) (s : ℕ) : Type 0 where
  pub date_time : IsDateTime c
  pub same_day : days_from_civil (pos c.year) c.month c.day ≡ day
  pub same_time : c.hour * 3600 + c.minute * 60 + c.second ≡ s

on_day : (day : ℤ) (s : ℕ) → negsuc 719161 ≤ℤ day → day ≤ℤ pos 2932896 → s < 86400 → IsOf (date_time_on day s) day s
on_day day s from to lt =
    let parts = parts_of_day day from to in
    record {
      date_time = record { day = parts.is; time = time_of s lt };
      same_day = parts.same;
      same_time = omega arith;
    }

reads_as : (c : DateTime) (date : UtcDate) (day : ℤ) (s : ℕ) → IsOf c day s → date.seconds ≡ day *ℤ pos 86400 +ℤ pos s → date_time_in (date_time_text c) ≡ c → IsUtcText (date_time_text c) date
reads_as c date day s is seconds named = record {
  laid_out = laid_out c;
  ends = ends c;
  date_time = subst IsDateTime (sym named) is.date_time;
  seconds = seconds ∙ sym (ap date_time_seconds named ∙ (λ i. is.same_day i *ℤ pos 86400 +ℤ pos (is.same_time i)));
}

days_bound : (c : DateTime) → days_in_month (pos c.year) c.month ≤ 31
days_bound c = (days_in_month_bounds (pos c.year) c.month).0

named_back : (c : DateTime) → IsDateTime c → date_time_in (date_time_text c) ≡ c
named_back c is =
    names_it c is.day.to_year (omega (arith, is.day.to_month)) (omega (arith, is.day.to_day, days_bound c)) (omega (arith, is.time.to_hour)) (omega (arith, is.time.to_minute)) (omega (arith, is.time.to_second))

day_and_time : (date : UtcDate) (day : ℤ) (s : ℕ) → negsuc 719161 ≤ℤ day → day ≤ℤ pos 2932896 → s < 86400 → date.seconds ≡ day *ℤ pos 86400 +ℤ pos s → IsUtcText (date_time_text (date_time_on day s)) date
day_and_time date day s from to lt seconds =
    let is = on_day day s from to lt in
    reads_as (date_time_on day s) date day s is seconds (named_back (date_time_on day s) is.date_time)

pub date_reads_back : (date : UtcDate) → IsUtcDate date → IsUtcText (utc_text date) date
date_reads_back date is =
    let low = is.not_before in
    let high = is.not_after in
    day_and_time date (int_div_euclid date.seconds (pos 86400)) (unsigned_abs (int_rem_euclid date.seconds (pos 86400)))
    (omega (arith, signed_arith, low, high)) (omega (arith, signed_arith, low, high)) (omega (arith, signed_arith)) (omega (arith, signed_arith))

pub text_has_one_date : (text : List ℕ) (date other : UtcDate) → IsUtcText text date → IsUtcText text other → other ≡ date
text_has_one_date text date other a b = let same : other.seconds ≡ date.seconds = b.seconds ∙ sym a.seconds in (λ i. record { seconds = same i })
