-- The Unix seconds of the date that a text is, by a test (RFC 8620, 1.4).
use Rattle.std.specs.Prelude.{ℕ, ℤ, pos, List, take, drop, Bool, ◌&&◌, nat_le, Option, Some, None, if◌then◌else◌, codes}
use Rattle.jiff_core.specs.Calendar.{days_in_month}
use Rattle.jm_base.specs.UtcDates.{DateTime, date_time_in, date_time_seconds, is_end, is_laid_out}
use Rattle.jm_base.specs.declared.utc_dates.TheConstants.{LAST_YEAR}

-- a day that the calendar has, of the years 1 to `LAST_YEAR`
abbrev pub is_day : DateTime → Bool
is_day c =
    nat_le 1 c.year && nat_le c.year LAST_YEAR && nat_le 1 c.month && nat_le c.month 12
    && nat_le 1 c.day && nat_le c.day (days_in_month (pos c.year) c.month)

-- a second of a day
abbrev pub is_time : DateTime → Bool
is_time c = nat_le c.hour 23 && nat_le c.minute 59 && nat_le c.second 59

-- the text is a date and time of day in UTC, as `IsUtcText` says
abbrev pub is_utc_text : List ℕ → Bool
is_utc_text text =
    is_laid_out (codes "0000-00-00T00:00:00") (take 19 text) && is_end (drop 19 text)
    && is_day (date_time_in text) && is_time (date_time_in text)

-- the Unix seconds of the date that a text is, if it is one; a fraction of a second is dropped
abbrev pub utc_seconds : List ℕ → Option ℤ
utc_seconds text =
    if is_utc_text text then Some (date_time_seconds (date_time_in text)) else None
