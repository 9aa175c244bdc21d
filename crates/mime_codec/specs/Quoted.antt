-- Quoted-printable (RFC 2045, section 6.7).
use Rattle.std.specs.Prelude.{ℕ, ◌+◌, ◌-◌, ◌*◌, Bool, ◌&&◌, ◌||◌, ◌==◌, nat_le, List, [], ◌∷◌, ◌++◌, length, get_or, take, drop, if◌then◌else◌}
use Rattle.std.specs.List.{flat_map, suffix_len}
use Rattle.mime_lines.specs.Lines.{lines, text, is_blank}

abbrev pub is_between : ℕ → ℕ → ℕ → Bool
is_between low high b = nat_le low b && nat_le b high

-- 0 to 9, A to F, a to f
abbrev pub is_hex : ℕ → Bool
is_hex b = is_between 48 57 b || is_between 65 70 b || is_between 97 102 b

-- the value of such a digit
abbrev pub hex_value : ℕ → ℕ
hex_value b = if is_between 48 57 b then b - 48 else (if is_between 65 70 b then b - 55 else b - 87)

-- an equals sign and two digits, which name a byte
abbrev pub is_escape : ℕ → ℕ → ℕ → Bool
is_escape b high low = b == 61 && (is_hex high && is_hex low)

-- the text with each escape replaced by the byte that it names; all else, an invalid escape too,
-- stays
abbrev pub unescaped : List ℕ → List ℕ
unescaped [] = []
unescaped (b ∷ []) = b ∷ []
unescaped (b ∷ c ∷ []) = b ∷ c ∷ []
unescaped (b ∷ c ∷ d ∷ bs) =
    if is_escape b c d then (16 * hex_value c + hex_value d) ∷ unescaped bs
    else b ∷ unescaped (c ∷ d ∷ bs)

-- without the spaces and tabs at the end
abbrev pub without_end_blanks : List ℕ → List ℕ
without_end_blanks xs = take (length xs - suffix_len is_blank xs) xs

-- an equals sign at the end of a line: the next line continues it
abbrev pub is_soft : List ℕ → Bool
is_soft t = get_or t (length t - 1) 0 == 61

-- what a text encodes that is left of a line, with the line end where it is no soft break
abbrev pub text_with_end : List ℕ → List ℕ → List ℕ
text_with_end t end = if is_soft t then unescaped (take (length t - 1) t) else unescaped t ++ end

-- what a line encodes
abbrev pub quoted_line : List ℕ → List ℕ
quoted_line line = text_with_end (without_end_blanks (text line)) (drop (length (text line)) line)

-- what the lines encode, one after the other
abbrev pub quoted_printable : List ℕ → List ℕ
quoted_printable bytes = flat_map quoted_line (lines bytes)
