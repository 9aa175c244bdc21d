-- Texts without the white space at their ends, and names without case. White space is ASCII's:
-- space, tab, LF, CR and FF.
use Rattle.std.specs.Prelude.{ℕ, ◌-◌, Bool, List, length, take, drop, bytes_eq}
use Rattle.std.specs.List.{prefix_len, suffix_len}
use Rattle.std.specs.Char.{is_ascii_whitespace}
use Rattle.std.specs.Str.{str_to_ascii_lowercase}

abbrev pub trimmed_start : List ℕ → List ℕ
trimmed_start text = drop (prefix_len is_ascii_whitespace text) text

abbrev pub trimmed_end : List ℕ → List ℕ
trimmed_end text = take (length text - suffix_len is_ascii_whitespace text) text

abbrev pub trimmed : List ℕ → List ℕ
trimmed text = trimmed_end (trimmed_start text)

-- whether two names are the same in ASCII lower case
abbrev pub is_same_name : List ℕ → List ℕ → Bool
is_same_name a b = bytes_eq (str_to_ascii_lowercase a) (str_to_ascii_lowercase b)
