-- The Date form (RFC 5322, sections 3.3 and 4.3; RFC 8621, section 4.1.2.6).
use Rattle.std.specs.Prelude.{ℕ, ◌≤◌, ◌+◌, ◌-◌, ◌*◌, ◌/◌, ◌%◌, Bool, true, false, ◌&&◌, ◌||◌, ◌==◌, nat_lt, nat_le, ℤ, pos, neg_ℤ, ◌-ℤ◌, int_le, min, List, [], ◌∷◌, ◌++◌, length, Option, Some, None, option_map, codes, bytes_eq, if◌then◌else◌}
use Rattle.std.specs.List.{list_all}
use Rattle.std.specs.Char.{is_ascii_whitespace, is_ascii_digit, is_ascii_alphabetic}
use Rattle.std.specs.Str.{str_to_ascii_lowercase}
use Rattle.jiff.specs.Words.{days_in_month}
use Rattle.jm_base.specs.UtcDates.{date_time_seconds}
use Rattle.jm_base.specs.declared.identifiers.UtcDate.{UtcDate}
use Rattle.jm_base.specs.declared.utc_dates.TheConstants.{FIRST_TIMESTAMP, LAST_TIMESTAMP, LAST_YEAR}
use Rattle.mail_text.specs.declared.comment.State.{State}
use Rattle.mail_text.specs.declared.comment.State.TheVariants.{Outside, Inside, Escaped}
use Rattle.mail_text.specs.Comments.{next}
use Rattle.mime_words.specs.Words.{◌>>=◌}
use Rattle.header_forms.specs.declared.date_time.ZonedDateTime.{ZonedDateTime}
use Rattle.header_forms.specs.declared.date_time.ZoneOffset.{ZoneOffset}
use Rattle.header_forms.specs.declared.date_time.TimeOfDay.{TimeOfDay}

-- the words of a text from a byte offset on: the rest of the word that is there, and the later ones
pub record Read : Type 0 where
  pub front : List ℕ
  pub later : List (List ℕ)

abbrev pub word_before : List ℕ → List (List ℕ) → List (List ℕ)
word_before [] later = later
word_before (b ∷ bs) later = (b ∷ bs) ∷ later

abbrev pub all_words : Read → List (List ℕ)
all_words r = word_before r.front r.later

abbrev pub onto : ℕ → Read → Read
onto b r = record { front = b ∷ r.front; later = r.later }

-- a word ends here
abbrev pub parted : Read → Read
parted r = record { front = []; later = all_words r }

-- a comma is a word of its own
abbrev pub at_comma : Read → Read
at_comma r = record { front = []; later = (44 ∷ []) ∷ all_words r }

-- white space and comments separate words
abbrev pub with_byte : State → ℕ → Read → Read
with_byte Outside b r = if b == 40 || is_ascii_whitespace b then parted r
    else (if b == 44 then at_comma r else onto b r)
with_byte (Inside depth) b r = r
with_byte (Escaped depth) b r = r

-- nothing is read if a comment isn't closed
abbrev pub read_end : State → Option Read
read_end Outside = Some (record { front = []; later = [] })
read_end (Inside depth) = None
read_end (Escaped depth) = None

abbrev pub read_from : List ℕ → State → Option Read
read_from [] state = read_end state
read_from (b ∷ bs) state = option_map (with_byte state b) (read_from bs (next state b))

abbrev pub words_of : List ℕ → Option (List (List ℕ))
words_of text = option_map all_words (read_from text Outside)

-- the number of a name in a list of names of three letters each, in either case, the first being 1
abbrev pub name_number : List (List ℕ) → ℕ → List ℕ → Option ℕ
name_number [] n name = None
name_number (known ∷ names) n name =
    if bytes_eq (str_to_ascii_lowercase name) known then Some n else name_number names (n + 1) name

abbrev pub weekdays : List (List ℕ)
weekdays = codes "mon" ∷ codes "tue" ∷ codes "wed" ∷ codes "thu" ∷ codes "fri" ∷ codes "sat"
    ∷ codes "sun" ∷ []

abbrev pub months : List (List ℕ)
months =
    codes "jan" ∷ codes "feb" ∷ codes "mar" ∷ codes "apr" ∷ codes "may" ∷ codes "jun" ∷ codes "jul"
    ∷ codes "aug" ∷ codes "sep" ∷ codes "oct"
    ∷ codes "nov" ∷ codes "dec" ∷ []

abbrev pub is_comma : List ℕ → Bool
is_comma word = bytes_eq word (44 ∷ [])

-- without a weekday and its comma; the weekday needn't be the date's
abbrev pub after_weekday : Option ℕ → List (List ℕ) → Option (List (List ℕ))
after_weekday None rest = None
after_weekday (Some day) rest = Some rest

abbrev pub without_weekday : List (List ℕ) → Option (List (List ℕ))
without_weekday [] = Some []
without_weekday (a ∷ []) = Some (a ∷ [])
without_weekday (a ∷ b ∷ rest) =
    if is_comma b then after_weekday (name_number weekdays 1 a) rest else Some (a ∷ b ∷ rest)

abbrev pub value_from : ℕ → List ℕ → ℕ
value_from n [] = n
value_from n (b ∷ bs) = value_from (n * 10 + (b - 48)) bs

-- the number that digits are, from `least` to `most` of them
abbrev pub number_in : ℕ → ℕ → List ℕ → Option ℕ
number_in least most word =
    if list_all is_ascii_digit word && (nat_le least (length word) && nat_le (length word) most)
    then Some (value_from 0 word) else None

-- a year of two digits is one of 1950 to 2049, a year of three digits is counted from 1900
-- (obs-year; RFC 5322, section 4.3)
abbrev pub full_year : ℕ → ℕ → ℕ
full_year size n =
    if size == 4 then n else (if size == 2 && nat_lt n 50 then n + 2000 else n + 1900)

abbrev pub year_in : List ℕ → Option ℕ
year_in word = option_map (full_year (length word)) (number_in 2 4 word)

-- a leap second is read as the second before it
abbrev pub if_time : ℕ → ℕ → ℕ → Option TimeOfDay
if_time hour minute second =
    if nat_lt hour 24 && (nat_lt minute 60 && nat_le second 60)
    then Some (record { hour = hour; minute = minute; second = min second 59 }) else None

unfoldable pub time_by : List ℕ → List ℕ → List ℕ → Option TimeOfDay
time_by hour minute second = do
  h ← number_in 2 2 hour
  m ← number_in 2 2 minute
  s ← number_in 2 2 second
  if_time h m s

-- hh:mm or hh:mm:ss
abbrev pub time_in : List ℕ → Option TimeOfDay
time_in (a ∷ b ∷ x ∷ c ∷ d ∷ []) =
    if x == 58 then time_by (a ∷ b ∷ []) (c ∷ d ∷ []) (codes "00") else None
time_in (a ∷ b ∷ x ∷ c ∷ d ∷ y ∷ e ∷ f ∷ []) =
    if x == 58 && y == 58 then time_by (a ∷ b ∷ []) (c ∷ d ∷ []) (e ∷ f ∷ []) else None
time_in _ = None

abbrev pub hours : Bool → ℕ → ZoneOffset
hours behind n = record { behind = behind; minutes = n * 60 }

-- the offset of a name of a zone (obs-zone; RFC 5322, section 4.3): the names of North America have
-- theirs, every other name has that of UTC
abbrev pub zone_named : List ℕ → ZoneOffset
zone_named name =
    if bytes_eq name (codes "edt") then hours true 4
    else (if bytes_eq name (codes "est") || bytes_eq name (codes "cdt") then hours true 5
    else (if bytes_eq name (codes "cst") || bytes_eq name (codes "mdt") then hours true 6
    else (if bytes_eq name (codes "mst") || bytes_eq name (codes "pdt") then hours true 7
    else (if bytes_eq name (codes "pst") then hours true 8 else hours false 0))))

-- the offset of hhmm: mm is below 60
abbrev pub offset_by : Bool → Option ℕ → Option ZoneOffset
offset_by behind None = None
offset_by behind (Some n) = if nat_lt (n % 100) 60
    then Some (record { behind = behind; minutes = (n / 100) * 60 + n % 100 }) else None

-- the offset of a zone: +hhmm, -hhmm, or a name (obs-zone)
abbrev pub zone_in : List ℕ → Option ZoneOffset
zone_in [] = None
zone_in (b ∷ bs) =
    if b == 43 then offset_by false (number_in 4 4 bs)
    else (if b == 45 then offset_by true (number_in 4 4 bs)
    else (if list_all is_ascii_alphabetic (b ∷ bs)
    then Some (zone_named (str_to_ascii_lowercase (b ∷ bs))) else None))

-- a date-time, if the month of its year has its day
abbrev pub if_day : ZonedDateTime → Option ZonedDateTime
if_day m =
    if nat_le 1 m.day && nat_le m.day (days_in_month (pos m.year) m.month) then Some m else None

-- the calendar has the day of a date-time
pub record IsReal (m : ZonedDateTime) : Type 0 where
  pub to_year : m.year ≤ LAST_YEAR
  pub from_month : 1 ≤ m.month
  pub to_month : m.month ≤ 12
  pub from_day : 1 ≤ m.day
  pub to_day : m.day ≤ days_in_month (pos m.year) m.month

unfoldable pub date_time_by : List ℕ → List ℕ → List ℕ → List ℕ → List ℕ → Option ZonedDateTime
date_time_by day month year time zone = do
  d ← number_in 1 2 day
  m ← name_number months 1 month
  y ← year_in year
  t ← time_in time
  z ← zone_in zone
  if_day (record { year = y; month = m; day = d; time = t; offset = z })

-- day, month, year, time and zone, and nothing else
abbrev pub date_time_of_words : List (List ℕ) → Option ZonedDateTime
date_time_of_words (day ∷ month ∷ year ∷ time ∷ zone ∷ []) = date_time_by day month year time zone
date_time_of_words _ = None

unfoldable pub date_time_in : List ℕ → Option ZonedDateTime
date_time_in text = do
  words ← words_of text
  parts ← without_weekday words
  date_time_of_words parts

abbrev pub two_digits : ℕ → List ℕ
two_digits n = (48 + n / 10 % 10) ∷ (48 + n % 10) ∷ []

-- Z, or the sign, the hours and the minutes
abbrev pub offset_text : ZoneOffset → List ℕ
offset_text z =
    if z.minutes == 0 then codes "Z"
    else ((if z.behind then 45 else 43) ∷ two_digits (z.minutes / 60) ++ 58
    ∷ two_digits (z.minutes % 60))

-- YYYY-MM-DDTHH:MM:SS and the offset (RFC 3339)
abbrev pub date_time_text : ZonedDateTime → List ℕ
date_time_text m =
    two_digits (m.year / 100) ++ two_digits m.year ++ 45 ∷ two_digits m.month ++ 45
    ∷ two_digits m.day ++ 84 ∷ two_digits m.time.hour
    ++ 58 ∷ two_digits m.time.minute ++ 58 ∷ two_digits m.time.second ++ offset_text m.offset

-- the Date form of a value on one line, if the value is a valid date
abbrev pub date_text : List ℕ → Option (List ℕ)
date_text text = option_map date_time_text (date_time_in text)

-- how many seconds a zone's clock is ahead of UTC
abbrev pub offset_seconds : ZoneOffset → ℤ
offset_seconds z = if z.behind then neg_ℤ (pos (z.minutes * 60)) else pos (z.minutes * 60)

-- the Unix seconds of a date-time: the clock of the zone, less its offset
abbrev pub unix_seconds : ZonedDateTime → ℤ
unix_seconds m =
    date_time_seconds (record {
      year = m.year;
      month = m.month;
      day = m.day;
      hour = m.time.hour;
      minute = m.time.minute;
      second = m.time.second;
    })
    -ℤ offset_seconds m.offset

-- the timestamps of the years 0001 to 9999 (RFC 8620, section 1.4; RFC 3339)
abbrev pub if_in_range : ℤ → Option UtcDate
if_in_range seconds = if int_le FIRST_TIMESTAMP seconds && int_le seconds (pos LAST_TIMESTAMP)
    then Some (record { seconds = seconds }) else None

-- the timestamp of a value on one line, if the value is a valid date of these years
abbrev pub utc_of : List ℕ → Option UtcDate
utc_of text = date_time_in text >>= (λ m. if_in_range (unix_seconds m))
