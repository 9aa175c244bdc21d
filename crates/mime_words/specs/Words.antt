-- Encoded-words in a text: an encoded-word is =?charset?encoding?encoded-text?= (RFC 2047, section
-- 2).
use Rattle.std.specs.Prelude.{ℕ, zero, suc, ◌-◌, Bool, true, false, ◌&&◌, ◌||◌, not, ◌==◌, nat_lt, nat_le, List, [], ◌∷◌, ◌++◌, length, map, filter, Option, Some, None, if◌then◌else◌}
use Rattle.std.specs.List.{list_all, list_any, position_or_len, before_first, after_first}
use Rattle.std.specs.Char.{is_ascii_whitespace, is_ascii_control}
use Rattle.std.specs.Str.{chars, encode_utf8_all}
use Rattle.mime_codec.specs.Base64.{base64}
use Rattle.mime_codec.specs.Quoted.{unescaped}
use Rattle.mime_words.specs.declared.charset.Charset.{Charset}
use Rattle.mime_words.specs.declared.words.TheConstants.{MAX_ENCODED_WORD_BYTES}
use Rattle.mime_words.specs.Charsets.{charset_named, same_charset, text_in}

-- continue what was found, if anything was
infixl 10 ◌>>=◌
abbrev pub ◌>>=◌ : {A B : Type 0} → Option A → (A → Option B) → Option B
None >>= f = None
(Some x) >>= f = f x

-- what follows this byte, if the text begins with it
abbrev pub after_sign : ℕ → List ℕ → Option (List ℕ)
after_sign sign [] = None
after_sign sign (b ∷ bs) = if b == sign then Some bs else None

abbrev pub is_question : ℕ → Bool
is_question b = b == 63

-- the text before the first question mark, and the text after it
abbrev pub at_question : List ℕ → Option (List ℕ × List ℕ)
at_question text =
    if nat_lt (position_or_len is_question text) (length text)
    then Some (before_first is_question text, after_first is_question text) else None

-- the pieces of an encoded-word (its charset, its encoding and its encoded-text), and the text
-- after it
pub record Shape : Type 0 where
  pub charset : List ℕ
  pub encoding : List ℕ
  pub encoded : List ℕ
  pub rest : List ℕ

-- a text that begins with =? and three pieces that end with a question mark each, then an equals
-- sign
unfoldable pub shape_at : List ℕ → Option Shape
shape_at text = do
  opened ← after_sign 61 text
  inner ← after_sign 63 opened
  charset ← at_question inner
  encoding ← at_question charset.1
  encoded ← at_question encoding.1
  rest ← after_sign 61 encoded.1
  Some (record { charset = charset.0; encoding = encoding.0; encoded = encoded.0; rest = rest })

-- in the Q encoding an underscore is a space, whatever the charset (RFC 2047, section 4.2)
abbrev pub spaced : ℕ → ℕ
spaced b = if b == 95 then 32 else b

-- the bytes that an encoded-text encodes in the encoding of this letter: B (RFC 2047, section 4.1)
-- or Q (section 4.2), in either case
abbrev pub bytes_by : ℕ → List ℕ → Option (List ℕ)
bytes_by letter encoded =
    if letter == 66 || letter == 98 then Some (base64 encoded)
    else (if letter == 81 || letter == 113 then Some (unescaped (map spaced encoded)) else None)

-- an encoding is one letter
abbrev pub coded_bytes : List ℕ → List ℕ → Option (List ℕ)
coded_bytes [] encoded = None
coded_bytes (letter ∷ []) encoded = bytes_by letter encoded
coded_bytes (letter ∷ b ∷ bs) encoded = None

-- a text without its ASCII control characters, which could forge a line
abbrev pub without_controls : List ℕ → List ℕ
without_controls text = encode_utf8_all (filter (λ c. not (is_ascii_control c)) (chars text))

-- what an encoded-word holds: its charset, and the bytes that its encoded-text encodes
pub record Word : Type 0 where
  pub charset : Charset
  pub bytes : List ℕ

-- what an encoded-word of these pieces holds; nothing if its charset or its encoding isn't known
unfoldable pub content : Shape → Option Word
content s = do
  charset ← charset_named s.charset
  bytes ← coded_bytes s.encoding s.encoded
  Some (record { charset = charset; bytes = bytes })

-- an encoded-word has at most `MAX_ENCODED_WORD_BYTES` bytes from its first `=` to its last, and no
-- white space (RFC 2047, section 2, counts characters; these are ASCII there, and so bytes)
abbrev pub is_good : List ℕ → Shape → Bool
is_good text s =
    nat_le (length text - length s.rest) MAX_ENCODED_WORD_BYTES
    && not (list_any is_ascii_whitespace s.encoded)

abbrev pub if_good : List ℕ → Shape → Option Shape
if_good text s = if is_good text s then Some s else None

-- the encoded-word that a text begins with, and the text after it
unfoldable pub word_at : List ℕ → Option (Word × List ℕ)
word_at text = do
  shape ← shape_at text
  good ← if_good text shape
  held ← content good
  Some (held, good.rest)

-- a text cut at its encoded-words: the text before the first, that encoded-word, and what follows
pub data Cut : Type 0 where
  plain : List ℕ → Cut
  word : List ℕ → Word → Cut → Cut

-- a cut text with a byte before it
abbrev pub onto : ℕ → Cut → Cut
onto b (plain text) = plain (b ∷ text)
onto b (word text held later) = word (b ∷ text) held later

-- a byte where an encoded-word may begin; `later n` is the cut of what follows the byte without its
-- first n bytes
abbrev pub cut_at : ℕ → List ℕ → Option (Word × List ℕ) → (ℕ → Cut) → Cut
cut_at b bs None later = onto b (later zero)
cut_at b bs (Some w) later = word [] w.0 (later (length bs - length w.1))

-- the cut of a text without this many of its first bytes
abbrev pub cut_after : List ℕ → ℕ → Cut
cut_after [] left = plain []
cut_after (b ∷ bs) (suc left) = cut_after bs left
cut_after (b ∷ bs) zero = cut_at b bs (word_at (b ∷ bs)) (cut_after bs)

-- Encoded-words are looked for from the beginning, and none begins within a decoded one. The next
-- may begin at the second byte of what is no encoded-word, and so at its last `=` too.
abbrev pub cut : List ℕ → Cut
cut text = cut_after text zero

abbrev pub is_white : List ℕ → Bool
is_white text = list_all is_ascii_whitespace text

-- whether two encoded-words with this text between them are read as one: they have the same
-- charset, and only white space is between them (RFC 2047, section 5, keeps each character within
-- one encoded-word; many writers split one over two)
abbrev pub are_one : Word → List ℕ → Word → Bool
are_one first between next = is_white between && same_charset first.charset next.charset

-- the encoded-word that two are read as: it has the bytes of both
abbrev pub both : Word → Word → Word
both first next = record { charset = first.charset; bytes = first.bytes ++ next.bytes }

-- a text before an encoded-word, that encoded-word, and what follows, whose encoded-words are
-- joined
abbrev pub join_first : List ℕ → Word → Cut → Cut
join_first before first (plain text) = word before first (plain text)
join_first before first (word between next later) =
    if are_one first between next then word before (both first next) later
    else word before first (word between next later)

-- a cut text in which encoded-words that follow one another are joined if they are read as one
abbrev pub joined : Cut → Cut
joined (plain text) = plain text
joined (word before first later) = join_first before first (joined later)

-- the text that an encoded-word encodes: its bytes read in its charset, without control characters
abbrev pub meaning : Word → List ℕ
meaning w = without_controls (text_in w.charset w.bytes)

-- the text before an encoded-word: white space alone is dropped if another encoded-word is before
-- it (RFC 2047, section 6.2)
abbrev pub gap : Bool → List ℕ → List ℕ
gap after_word text = if after_word && is_white text then [] else text

-- the decoding of a cut text, after an encoded-word or not
abbrev pub said : Bool → Cut → List ℕ
said after_word (plain text) = text
said after_word (word text held later) = gap after_word text ++ (meaning held ++ said true later)

-- the decoding of a cut text that is not after an encoded-word
abbrev pub text_said : Cut → List ℕ
text_said c = said false (joined c)

-- a text with its encoded-words decoded
abbrev pub decoded_words : List ℕ → List ℕ
decoded_words text = text_said (cut text)
