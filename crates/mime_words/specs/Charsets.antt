-- The charsets that are known, and the text of bytes in them (RFC 3629; RFC 2046, section 4.1.2;
-- ISO 8859-1).
use Rattle.std.specs.Prelude.{ℕ, Bool, true, false, not, nat_lt, List, map, Option, Some, None, codes, if◌then◌else◌}
use Rattle.std.specs.List.{list_all}
use Rattle.std.specs.Str.{is_utf8, encode_utf8_all}
use Rattle.std.specs.Str.Lossy.{utf8_lossy}
use Rattle.mail_text.specs.Texts.{is_same_name}
use Rattle.mime_words.specs.declared.charset.Charset.{Charset}
use Rattle.mime_words.specs.declared.charset.Charset.TheVariants.{Utf8, Ascii, Latin1}

-- the charset of a name; every other name is unknown
abbrev pub charset_named : List ℕ → Option Charset
charset_named name =
    if is_same_name name (codes "utf-8") then Some Utf8
    else (if is_same_name name (codes "us-ascii") then Some Ascii
    else (if is_same_name name (codes "iso-8859-1") then Some Latin1 else None))

-- whether two charsets are the same
abbrev pub same_charset : Charset → Charset → Bool
same_charset Utf8 Utf8 = true
same_charset Utf8 Ascii = false
same_charset Utf8 Latin1 = false
same_charset Ascii Utf8 = false
same_charset Ascii Ascii = true
same_charset Ascii Latin1 = false
same_charset Latin1 Utf8 = false
same_charset Latin1 Ascii = false
same_charset Latin1 Latin1 = true

abbrev pub is_ascii : ℕ → Bool
is_ascii b = nat_lt b 128

-- the character that a byte of us-ascii is; a byte above 127 is none, and U+FFFD replaces it
abbrev pub ascii_character : ℕ → ℕ
ascii_character b = if is_ascii b then b else 0xFFFD

-- the text of bytes in a charset, as UTF-8. Each sequence that is no UTF-8 becomes one U+FFFD; in
-- iso-8859-1 each byte is the code of its character.
abbrev pub text_in : Charset → List ℕ → List ℕ
text_in Utf8 bytes = utf8_lossy bytes
text_in Ascii bytes = encode_utf8_all (map ascii_character bytes)
text_in Latin1 bytes = encode_utf8_all bytes

-- bytes in an unknown charset are read as us-ascii
abbrev pub decoded_text : Option Charset → List ℕ → List ℕ
decoded_text None bytes = text_in Ascii bytes
decoded_text (Some charset) bytes = text_in charset bytes

-- whether the charset doesn't allow some byte
abbrev pub is_broken : Charset → List ℕ → Bool
is_broken Utf8 bytes = not (is_utf8 bytes)
is_broken Ascii bytes = not (list_all is_ascii bytes)
is_broken Latin1 bytes = false

-- an encoding problem (RFC 8621, section 4.1.4): a byte that the charset doesn't allow, or an
-- unknown charset
abbrev pub has_problem : Option Charset → List ℕ → Bool
has_problem None bytes = true
has_problem (Some charset) bytes = is_broken charset bytes
