-- The header fields of a draft's message (RFC 5322, section 3.6; RFC 2045, section 4).
use Rattle.std.specs.Prelude.{ℕ, pos, min, List, [], ◌∷◌, ◌++◌, map, Option, Some, None, codes}
use Rattle.std.specs.Fmt.{decimal}
use Rattle.jm_base.specs.UtcDates.{utc_text}
use Rattle.jm_base.specs.declared.utc_dates.TheConstants.{LAST_TIMESTAMP}
use Rattle.mime_lines.specs.FieldTexts.{FieldText}
use Rattle.header_forms.specs.WrittenForms.{addresses_value, date_value, ids_value, text_value}
use Rattle.mime_writer.specs.DateTimes.{zoned}
use Rattle.mime_writer.specs.declared.dates.DateTime.{DateTime}
use Rattle.draft_form.specs.Dates.{date_time_at}
use Rattle.draft_form.specs.Headers.{named}
use Rattle.draft_form.specs.declared.draft.Draft.{Draft}
use Rattle.draft_form.specs.declared.draft.DraftField.{DraftField}
use Rattle.draft_form.specs.declared.draft.FieldValue.{FieldValue}
use Rattle.draft_form.specs.declared.draft.FieldValue.TheVariants.{OfAddresses, OfText, OfIdentifiers}

-- the value of a field, as it is written
abbrev pub value_text : FieldValue → List ℕ
value_text (OfAddresses addresses) = addresses_value addresses
value_text (OfText t) = text_value t
value_text (OfIdentifiers ids) = ids_value ids

abbrev pub field_of : DraftField → FieldText
field_of f = record { name = f.name; value = value_text f.value }

-- the date-time in UTC of a timestamp in Unix seconds; after the year 9999 its last second
abbrev pub moment_date : ℕ → DateTime
moment_date moment = date_time_at (utc_text (record { seconds = pos (min moment LAST_TIMESTAMP) }))

-- the date that is given, or that of the call
abbrev pub date_or : ℕ → Option DateTime → DateTime
date_or moment None = moment_date moment
date_or moment (Some d) = d

-- the identifier of the email of this number that is made at this timestamp
abbrev pub own_id : ℕ → ℕ → List ℕ
own_id number moment =
    codes "e" ++ (decimal number ++ (codes "." ++ (decimal moment ++ codes "@jmap.invalid")))

-- the identifiers that are given, or the email's own
abbrev pub ids_or : ℕ → ℕ → Option (List (List ℕ)) → List (List ℕ)
ids_or number moment None = own_id number moment ∷ []
ids_or number moment (Some ids) = ids

abbrev pub date_field : DateTime → FieldText
date_field d = record { name = codes "Date"; value = date_value (zoned d) }

abbrev pub id_field : List (List ℕ) → DraftField
id_field ids = named (codes "Message-ID") (OfIdentifiers ids)

-- MIME-Version (RFC 2045, section 4)
abbrev pub version_field : FieldText
version_field = record { name = codes "MIME-Version"; value = codes " 1.0" }

-- the fields before those of the message's part, in their order
abbrev pub message_fields : Draft → ℕ → ℕ → List FieldText
message_fields d number moment =
    map field_of d.first
    ++ (date_field (date_or moment d.date)
    ∷ field_of (id_field (ids_or number moment d.message_id))
    ∷ (map field_of d.later ++ version_field ∷ []))
