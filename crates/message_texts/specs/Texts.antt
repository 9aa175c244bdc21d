-- The texts of a message that filters look at (RFC 8621, 4.4.1), from its bytes.
use Rattle.std.specs.Prelude.{ℕ, List, ◌++◌, codes, Bool, ◌&&◌, bytes_eq, map, filter}
use Rattle.mime_lines.specs.Fields.{fields_of}
use Rattle.mime_lines.specs.FieldOffsets.{lowered}
use Rattle.mime_lines.specs.FieldTexts.{FieldText}
use Rattle.mime_lines.specs.declared.field.Field.{Field}
use Rattle.mime_type.specs.PartTrees.{Node}
use Rattle.mime_tree.specs.PartLimit.{parts_of, walked}
use Rattle.header_forms.specs.Texts.{text_form}
use Rattle.mail_summary.specs.Texts.{body_text}
use Rattle.mail_view.specs.Headers.{values_of}
use Rattle.mail_view.specs.Values.{is_text_part}
use Rattle.mail_view.specs.Emails.{blob_bytes}
use Rattle.filter_terms.specs.Contains.{contains}
use Rattle.filter_terms.specs.Texts.{MessageTexts}

-- the Text form of each of these fields that has this name, in their order (RFC 8621, 4.1.2.2)
abbrev pub texts_among : List ℕ → List Field → List ℕ → List (List ℕ)
texts_among bytes fields name = map text_form (values_of bytes name fields)

-- the Text form of each field of the header that has this name, in either case
abbrev pub field_texts : List ℕ → List ℕ → List (List ℕ)
field_texts bytes name = texts_among bytes (fields_of bytes) name

-- the texts of those of these parts that are of a type text/..: their decoded bytes, read in their
-- charset, with each CRLF kept (RFC 8621, 4.1.4)
abbrev pub part_texts : List ℕ → List Node → List (List ℕ)
part_texts bytes parts = map (body_text bytes) (filter is_text_part parts)

-- The texts of the message with these bytes. Of its parts each text part counts, whether it is
-- shown or attached; other parts do not, nor does what is within an attached message.
abbrev pub message_texts : List ℕ → MessageTexts
message_texts bytes = record {
  fields = λ name. field_texts bytes name;
  bodies = part_texts bytes (walked (parts_of bytes));
}

-- the texts of the message in the blob with this number; an unknown number means an empty message
abbrev pub texts_of_blobs : List (List ℕ) → ℕ → MessageTexts
texts_of_blobs blobs n = message_texts (blob_bytes blobs n)

-- the texts of the fields that the condition `text` looks at
abbrev pub main_texts : MessageTexts → List (List ℕ)
main_texts m =
    m.fields (codes "From") ++ m.fields (codes "To") ++ m.fields (codes "Cc")
    ++ m.fields (codes "Bcc") ++ m.fields (codes "Subject")

-- a field with this name, in either case
abbrev pub is_field_named : List ℕ → FieldText → Bool
is_field_named name f = bytes_eq (lowered f.name) (lowered name)

-- a field has this name, and its Text form contains the needle
abbrev pub field_has : List ℕ → List ℕ → FieldText → Bool
field_has name needle f = is_field_named name f && contains needle (text_form f.value)
