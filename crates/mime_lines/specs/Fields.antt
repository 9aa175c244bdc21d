-- The header of a message as a list of fields (RFC 5322, section 2.2).
use Rattle.std.specs.Prelude.{ℕ, ◌+◌, Bool, false, ◌&&◌, ◌==◌, nat_le, not, List, [], ◌∷◌, ◌++◌, length, get_or, nat_lt, if◌then◌else◌}
use Rattle.std.specs.List.{prefix_len}
use Rattle.mime_lines.specs.Lines.{lines, is_line_end, text, is_blank}
use Rattle.mime_lines.specs.declared.field.Field.{Field}

-- the header: the lines before the first empty one; without an empty line, all of them
abbrev pub header : List (List ℕ) → List (List ℕ)
header [] = []
header (l ∷ ls) = if is_line_end l then [] else l ∷ header ls

-- the byte offset after the first empty line, if the lines begin at `at`
abbrev pub body_at : ℕ → List (List ℕ) → ℕ
body_at at [] = at
body_at at (l ∷ ls) = if is_line_end l then at + length l else body_at (at + length l) ls

-- a line that continues the one before it begins with space or tab (RFC 5322, section 2.2.3)
abbrev pub goes_on : List ℕ → Bool
goes_on [] = false
goes_on (b ∷ bs) = is_blank b

abbrev pub next_goes_on : List (List ℕ) → Bool
next_goes_on [] = false
next_goes_on (l ∷ ls) = goes_on l

abbrev pub onto_next : List ℕ → List (List ℕ) → List (List ℕ)
onto_next l [] = l ∷ []
onto_next l (g ∷ gs) = (l ++ g) ∷ gs

-- each line joined with the lines that continue it
abbrev pub joined : List (List ℕ) → List (List ℕ)
joined [] = []
joined (l ∷ ls) = if next_goes_on ls then onto_next l (joined ls) else l ∷ joined ls

-- a character of a field's name: from ! to ~, and not the colon (RFC 5322, section 3.6.8)
abbrev pub is_name_byte : ℕ → Bool
is_name_byte b = nat_le 33 b && nat_le b 126 && not (b == 58)

abbrev pub name_len : List ℕ → ℕ
name_len l = prefix_len is_name_byte l

-- a field begins with one or more characters of a name, and a colon
abbrev pub is_field : List ℕ → Bool
is_field l = nat_lt 0 (name_len l) && get_or l (name_len l) 0 == 58

-- the byte offsets of a field that begins at `at`: its last line end is left out
abbrev pub span_of : ℕ → List ℕ → Field
span_of at l = record { start = at; colon = at + name_len l; end = at + length (text l) }

-- the byte offsets of those joined lines that are fields, if the first line begins at `at`; other
-- lines are skipped
abbrev pub spans : ℕ → List (List ℕ) → List Field
spans at [] = []
spans at (l ∷ ls) =
    let later = spans (at + length l) ls in if is_field l then span_of at l ∷ later else later

-- the fields of a message or of a part
abbrev pub fields_of : List ℕ → List Field
fields_of bytes = spans 0 (joined (header (lines bytes)))

-- the byte offset where the body begins
abbrev pub body_of : List ℕ → ℕ
body_of bytes = body_at 0 (lines bytes)
