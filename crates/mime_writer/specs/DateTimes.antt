-- The date-time of a header field.
use Rattle.header_forms.specs.declared.date_time.ZonedDateTime.{ZonedDateTime}
use Rattle.mime_writer.specs.declared.dates.DateTime.{DateTime}

-- a date-time, as the readers of fields see it
abbrev pub zoned : DateTime → ZonedDateTime
zoned d = record {
  year = d.year;
  month = d.month;
  day = d.day;
  time = record { hour = d.hour; minute = d.minute; second = d.second };
  offset = record { behind = d.behind; minutes = d.offset };
}
