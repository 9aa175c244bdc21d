-- Texts and fields as a careful writer writes them.
use Rattle.std.specs.Prelude.{◌≡◌, ℕ, ◌<◌, Bool, true, ◌&&◌, not, ◌==◌, IsTrue, List, [], ◌∷◌, ◌++◌, length, if◌then◌else◌}
use Rattle.std.specs.List.{flat_map, list_all}
use Rattle.mime_lines.specs.Fields.{goes_on, is_name_byte}
use Rattle.mime_lines.specs.FieldTexts.{FieldText}

-- the end of a line
abbrev pub crlf : List ℕ
crlf = 13 ∷ 10 ∷ []

-- the end of a line that the next line continues
abbrev pub fold : List ℕ
fold = 13 ∷ 10 ∷ 32 ∷ []

-- a byte within a line
abbrev pub is_inline : ℕ → Bool
is_inline b = not (b == 10)

-- texts one after the other, with this between each and the next
abbrev pub parted_by : List ℕ → List (List ℕ) → List ℕ
parted_by between [] = []
parted_by between (t ∷ []) = t
parted_by between (t ∷ u ∷ ts) = t ++ (between ++ parted_by between (u ∷ ts))

-- a field: its name, a colon, its value and a line end
abbrev pub field_line : FieldText → List ℕ
field_line f = f.name ++ 58 ∷ (f.value ++ crlf)

-- fields one after the other, an empty line, and a body (RFC 5322, section 2.1)
abbrev pub header_and_body : List FieldText → List ℕ → List ℕ
header_and_body fields body = flat_map field_line fields ++ (crlf ++ body)

-- whether space or tab follows each LF, so that no other field begins in a value
abbrev pub is_folded : List ℕ → Bool
is_folded [] = true
is_folded (b ∷ bs) = if b == 10 then goes_on bs && is_folded bs else is_folded bs

-- what can be written as a field: its name is one or more characters of a name, and its value is
-- folded
pub record IsField (f : FieldText) : Type 0 where
  pub some : 0 < length f.name
  pub name : IsTrue (list_all is_name_byte f.name)
  pub value : is_folded f.value ≡ true
