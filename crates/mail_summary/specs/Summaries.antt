-- What is kept of a message in addition to its bytes.
use Rattle.std.specs.Prelude.{ℕ, List, [], ◌∷◌, Option, Some, None, unwrap_or, codes}
use Rattle.std.specs.Option.{option_and_then}
use Rattle.std.specs.Str.{chars}
use Rattle.jm_base.specs.declared.identifiers.UtcDate.{UtcDate}
use Rattle.mail_records.specs.declared.records.Summary.{Summary}
use Rattle.mime_lines.specs.Fields.{fields_of}
use Rattle.mime_lines.specs.FieldOffsets.{last_value_of}
use Rattle.mime_tree.specs.PartLimit.{parts_of}
use Rattle.header_forms.specs.Texts.{on_one_line, text_form}
use Rattle.header_forms.specs.Addresses.{addresses_in}
use Rattle.header_forms.specs.declared.address.Address.{Address}
use Rattle.header_forms.specs.Dates.{utc_of}
use Rattle.mail_summary.specs.Leaves.{has_attachment_in}
use Rattle.mail_summary.specs.Texts.{brief}
use Rattle.mail_summary.specs.Subjects.{stripped}
use Rattle.mail_summary.specs.Links.{links}

-- the value of the last field that has this name
abbrev pub last_field_value : List ℕ → List ℕ → Option (List ℕ)
last_field_value bytes name = last_value_of bytes name (fields_of bytes)

abbrev pub subject_by : Option (List ℕ) → List ℕ
subject_by None = []
subject_by (Some value) = brief (stripped (chars (text_form value)))

-- the name, else the address, of the first address
abbrev pub first_name : List Address → List ℕ
first_name [] = []
first_name (a ∷ later) = brief (chars (unwrap_or a.name a.email))

abbrev pub name_by : Option (List ℕ) → List ℕ
name_by None = []
name_by (Some value) = first_name (addresses_in (on_one_line value))

abbrev pub sent_by : List ℕ → Option UtcDate
sent_by value = utc_of (on_one_line value)

abbrev pub summary : List ℕ → Summary
summary bytes = record {
  links = links bytes;
  subject = subject_by (last_field_value bytes (codes "Subject"));
  from = name_by (last_field_value bytes (codes "From"));
  to = name_by (last_field_value bytes (codes "To"));
  sent = option_and_then sent_by (last_field_value bytes (codes "Date"));
  attachment = has_attachment_in (parts_of bytes);
}
