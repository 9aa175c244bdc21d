-- The fields of a header, line by line.
use Rattle.std.specs.Prelude.{ℕ, Bool, ◌&&◌, List, bytes_eq, take}
use Rattle.std.specs.List.{list_any}
use Rattle.mime_lines.specs.FieldOffsets.{lowered}
use Rattle.mime_lines.specs.Fields.{is_field, joined, name_len}
use Rattle.mime_lines.specs.FieldTexts.{field_texts_of}
use Rattle.message_texts.specs.Texts.{field_has}

-- a line is a field with this name, in either case
abbrev pub is_field_named : List ℕ → List ℕ → Bool
is_field_named name l = is_field l && bytes_eq (lowered (take (name_len l) l)) (lowered name)

-- one of the fields that these lines are has this name and contains the needle
abbrev pub lines_have : List ℕ → List ℕ → List (List ℕ) → Bool
lines_have name needle ls = list_any (field_has name needle) (field_texts_of (joined ls))
