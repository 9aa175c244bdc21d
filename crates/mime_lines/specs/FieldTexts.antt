-- A header's fields as names and values, without byte offsets.
use Rattle.std.specs.Prelude.{ℕ, ◌+◌, List, [], ◌∷◌, take, drop, if◌then◌else◌}
use Rattle.mime_lines.specs.Lines.{lines, text}
use Rattle.mime_lines.specs.Fields.{header, joined, name_len, is_field}
use Rattle.mime_lines.specs.FieldOffsets.{name_in, value_in}
use Rattle.mime_lines.specs.declared.field.Field.{Field}

-- a name, and what follows its colon
pub record FieldText : Type 0 where
  pub name : List ℕ
  pub value : List ℕ

-- the name and the value of a joined line
abbrev pub field_text_of : List ℕ → FieldText
field_text_of l = record { name = take (name_len l) l; value = drop (name_len l + 1) (text l) }

-- the name and the value of each joined line that is a field
abbrev pub field_texts_of : List (List ℕ) → List FieldText
field_texts_of [] = []
field_texts_of (l ∷ ls) =
    if is_field l then field_text_of l ∷ field_texts_of ls else field_texts_of ls

-- the fields of a header, read from its lines
abbrev pub field_texts : List ℕ → List FieldText
field_texts bytes = field_texts_of (joined (header (lines bytes)))

-- what is in the bytes at a field's offsets
abbrev pub read_at : List ℕ → Field → FieldText
read_at bytes f = record { name = name_in bytes f; value = value_in bytes f }
