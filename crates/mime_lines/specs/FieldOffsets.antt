-- What is at a field's byte offsets, and the field that a name means.
use Rattle.std.specs.Prelude.{ℕ, ◌+◌, ◌≤◌, ◌<◌, Bool, List, length, map, reverse, find, bytes_eq, Option, option_map, slice_range}
use Rattle.std.specs.Char.{to_ascii_lowercase}
use Rattle.mime_lines.specs.declared.field.Field.{Field}

-- the byte offsets are within the bytes, and rise
pub record IsWithin (bytes : List ℕ) (f : Field) : Type 0 where
  pub named : f.start ≤ f.colon
  pub ended : f.colon < f.end
  pub inside : f.end ≤ length bytes

-- the name, as it is written
abbrev pub name_in : List ℕ → Field → List ℕ
name_in bytes f = slice_range bytes f.start f.colon

-- the value: what follows the colon, its inner line ends too
abbrev pub value_in : List ℕ → Field → List ℕ
value_in bytes f = slice_range bytes (f.colon + 1) f.end

-- bytes with their ASCII letters in lower case
abbrev pub lowered : List ℕ → List ℕ
lowered bytes = map to_ascii_lowercase bytes

-- whether the field has this name, in either case
abbrev pub is_named : List ℕ → List ℕ → Field → Bool
is_named bytes name f = bytes_eq (lowered (name_in bytes f)) (lowered name)

-- the value of the last field that has this name
abbrev pub last_value_of : List ℕ → List ℕ → List Field → Option (List ℕ)
last_value_of bytes name fields =
    option_map (value_in bytes) (find (is_named bytes name) (reverse fields))
