-- Quoted-printable as it is written (RFC 2045, section 6.7).
use Rattle.std.specs.Prelude.{ℕ, ◌+◌, ◌/◌, ◌%◌, Bool, ◌&&◌, ◌||◌, ◌==◌, nat_lt, nat_le, not, List, [], ◌∷◌, ◌++◌, length, map, if◌then◌else◌}
use Rattle.std.specs.List.{concat, flat_map, slice_split}
use Rattle.mime_lines.specs.Written.{crlf, parted_by}
use Rattle.mime_codec.specs.Quoted.{is_between}

-- the digit of a number below 16, in upper case
abbrev pub hex_digit : ℕ → ℕ
hex_digit n = if nat_lt n 10 then n + 48 else n + 55

abbrev pub escape : ℕ → List ℕ
escape b = 61 ∷ hex_digit (b / 16) ∷ hex_digit (b % 16) ∷ []

-- a character that stands for itself: from space to ~, and no equals sign
abbrev pub is_literal : ℕ → Bool
is_literal b = is_between 32 126 b && not (b == 61)

-- how a byte is written that is not the last of its line
abbrev pub byte_text : ℕ → List ℕ
byte_text b = if is_literal b then b ∷ [] else escape b

-- how the last byte of a line is written: no space stands there
abbrev pub last_byte_text : ℕ → List ℕ
last_byte_text b = if b == 32 then escape b else byte_text b

-- how each byte of a line is written
abbrev pub byte_texts : List ℕ → List (List ℕ)
byte_texts [] = []
byte_texts (b ∷ []) = last_byte_text b ∷ []
byte_texts (b ∷ c ∷ bs) = byte_text b ∷ byte_texts (c ∷ bs)

-- an equals sign at the end of a line: the next line continues it
abbrev pub soft_break : List ℕ
soft_break = 61 ∷ crlf

-- whether a text is written on a line that has this many characters: there are 75 with it at most,
-- or 76 at most with all that is left to write
abbrev pub has_room : ℕ → List ℕ → List (List ℕ) → Bool
has_room column t later =
    nat_le (column + length t) 75 || nat_le (column + length (concat (t ∷ later))) 76

-- texts one after the other, on a line that has this many characters. A line is broken only if more
-- than 76 characters would be on it; it then has 75 at most, and the equals sign.
abbrev pub broken : ℕ → List (List ℕ) → List ℕ
broken column [] = []
broken column (t ∷ ts) = if has_room column t ts then t ++ broken (column + length t) ts
    else soft_break ++ (t ++ broken (length t) ts)

-- a line without its line end
abbrev pub line_text : List ℕ → List ℕ
line_text line = broken 0 (byte_texts line)

abbrev pub is_lf : ℕ → Bool
is_lf b = b == 10

-- bytes as lines that end with CRLF where they have an LF
abbrev pub quoted_printable_text : List ℕ → List ℕ
quoted_printable_text bytes = parted_by crlf (map line_text (slice_split is_lf bytes))

-- bytes with CRLF for each LF
abbrev pub with_crlf : List ℕ → List ℕ
with_crlf bytes = flat_map (λ b. if is_lf b then crlf else b ∷ []) bytes
