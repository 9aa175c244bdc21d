-- The date-times that sentAt may be: as the Date form shows them (RFC 8621, section 4.1.2.6).
use Rattle.std.specs.Prelude.{ℕ, ◌+◌, ◌-◌, ◌*◌, Bool, ◌&&◌, ◌==◌, nat_le, nat_lt, pos, List, slice_index, bytes_eq}
use Rattle.jiff.specs.Words.{days_in_month}
use Rattle.jm_base.specs.UtcDates.{two_at}
use Rattle.header_forms.specs.Dates.{date_time_text}
use Rattle.mime_writer.specs.DateTimes.{zoned}
use Rattle.mime_writer.specs.declared.dates.DateTime.{DateTime}
use Rattle.draft_form.specs.declared.sent_at.TheConstants.{FIRST_YEAR, OFFSET_LIMIT_MINUTES}
use Rattle.jm_base.specs.declared.utc_dates.TheConstants.{LAST_YEAR}

-- what the digits of YYYY-MM-DDTHH:MM:SS and of an offset name; after `Z` no digits are
abbrev pub date_time_at : List ℕ → DateTime
date_time_at text = record {
  year = two_at 0 text * 100 + two_at 2 text;
  month = two_at 5 text;
  day = two_at 8 text;
  hour = two_at 11 text;
  minute = two_at 14 text;
  second = two_at 17 text;
  behind = slice_index text 19 == 45;
  offset = two_at 20 text * 60 + two_at 23 text;
}

-- a day of the years from `FIRST_YEAR` to `LAST_YEAR`
abbrev pub is_day : DateTime → Bool
is_day d =
    nat_le FIRST_YEAR d.year && nat_le d.year LAST_YEAR
    && (nat_le 1 d.month && nat_le d.month 12)
    && (nat_le 1 d.day && nat_le d.day (days_in_month (pos d.year) d.month))

-- a second of a day, and an offset of a zone
abbrev pub is_time : DateTime → Bool
is_time d =
    nat_lt d.hour 24
    && (nat_lt d.minute 60 && (nat_lt d.second 60 && nat_lt d.offset OFFSET_LIMIT_MINUTES))

-- the text is the Date form of a date-time
abbrev pub is_sent_at : List ℕ → Bool
is_sent_at text =
    is_day (date_time_at text) && is_time (date_time_at text)
    && bytes_eq (date_time_text (zoned (date_time_at text))) text
