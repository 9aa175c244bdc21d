-- Texts as a careful writer writes them in a header: as they are, or in encoded-words (RFC 2047,
-- sections 2 and 5).
use Rattle.std.specs.Prelude.{ℕ, ◌-◌, Bool, false, ◌&&◌, ◌||◌, not, ◌==◌, nat_le, List, [], ◌∷◌, ◌++◌, length, map, codes, if◌then◌else◌}
use Rattle.std.specs.List.{list_all}
use Rattle.std.specs.Char.{encode_utf8, is_ascii_control, len_utf8}
use Rattle.std.specs.Str.{chars}
use Rattle.mime_lines.specs.Written.{fold, parted_by}
use Rattle.mime_codec.specs.Quoted.{is_between}
use Rattle.mime_codec.specs.Base64Text.{encoded}

-- the encoded-word of some bytes in UTF-8, in the B encoding
abbrev pub word_text : List ℕ → List ℕ
word_text bytes = codes "=?utf-8?B?" ++ (encoded bytes ++ codes "?=")

-- how many bytes of a text an encoded-word has at most: it has 72 characters then
abbrev pub max_word_bytes : ℕ
max_word_bytes = 45

-- a text before the first of some texts
abbrev pub onto_piece : List ℕ → List (List ℕ) → List (List ℕ)
onto_piece t [] = t ∷ []
onto_piece t (p ∷ ps) = (t ++ p) ∷ ps

-- characters in pieces, each of which has as many as fit: the first has room for this many bytes,
-- and each other for `max_word_bytes`
abbrev pub pieces_from : ℕ → List ℕ → List (List ℕ)
pieces_from room [] = [] ∷ []
pieces_from room (c ∷ cs) =
    if nat_le (len_utf8 c) room then onto_piece (encode_utf8 c) (pieces_from (room - len_utf8 c) cs)
    else [] ∷ onto_piece (encode_utf8 c) (pieces_from (max_word_bytes - len_utf8 c) cs)

abbrev pub pieces : List ℕ → List (List ℕ)
pieces text = pieces_from max_word_bytes (chars text)

-- a text in encoded-words, with this between each and the next
abbrev pub words_by : List ℕ → List ℕ → List ℕ
words_by between text = parted_by between (map word_text (pieces text))

-- a text in encoded-words, each on a line of its own
abbrev pub words_text : List ℕ → List ℕ
words_text text = words_by fold text

-- whether =? is in a text
abbrev pub has_word_start : List ℕ → Bool
has_word_start [] = false
has_word_start (b ∷ []) = false
has_word_start (b ∷ c ∷ cs) = (b == 61 && c == 63) || has_word_start (c ∷ cs)

-- how many characters a text may have that is written as it is: a line has at most 998 (RFC 5322,
-- section 2.1.1)
abbrev pub max_plain_size : ℕ
max_plain_size = 900

-- a text that is written as it is: characters from space to ~, without =?
abbrev pub is_plain_text : List ℕ → Bool
is_plain_text text = nat_le (length text) max_plain_size
    && (list_all (is_between 32 126) text && not (has_word_start text))

-- a character that a text in a header may have: no ASCII control character
abbrev pub is_shown : ℕ → Bool
is_shown c = not (is_ascii_control c)
