-- The Raw and the Text form of a field's value (RFC 8621, sections 4.1.2.1 and 4.1.2.2).
use Rattle.std.specs.Prelude.{ℕ, Bool, not, ◌==◌, List, filter, drop}
use Rattle.std.specs.List.{prefix_len}
use Rattle.std.specs.Str.{chars, encode_utf8_all}
use Rattle.std.specs.Str.Lossy.{utf8_lossy}
use Rattle.mime_lines.specs.Lines.{unfolded}
use Rattle.mime_words.specs.Words.{decoded_words}

-- a text without its characters of a class
abbrev pub without : (ℕ → Bool) → List ℕ → List ℕ
without class text = encode_utf8_all (filter (λ c. not (class c)) (chars text))

abbrev pub is_zero : ℕ → Bool
is_zero c = c == 0

-- the value with U+FFFD for what is no UTF-8, and without U+0000
abbrev pub raw_text : List ℕ → List ℕ
raw_text value = without is_zero (utf8_lossy value)

-- the value on one line
abbrev pub on_one_line : List ℕ → List ℕ
on_one_line value = unfolded (raw_text value)

abbrev pub is_space : ℕ → Bool
is_space b = b == 32

-- without the spaces at its beginning
abbrev pub without_spaces : List ℕ → List ℕ
without_spaces text = drop (prefix_len is_space text) text

-- the Text form: on one line, without the spaces at its beginning, and with its encoded-words
-- decoded
abbrev pub text_form : List ℕ → List ℕ
text_form value = decoded_words (without_spaces (on_one_line value))
