-- The fields of a head (RFC 9110, 5, 7.2 and 10.1.1; RFC 9112, 6 and 9.6).
use Rattle.std.specs.Prelude.{ℕ, Bool, ◌&&◌, ◌||◌, ◌==◌, nat_lt, List, [], ◌∷◌, length, map, filter, codes, bytes_eq, if◌then◌else◌}
use Rattle.std.specs.List.{list_all, list_any, onto_first}
use Rattle.std.specs.Char.{is_ascii_alphanumeric}
use Rattle.std.specs.Str.{str_eq_ignore_ascii_case}
use Rattle.httparse.specs.Grammar.{trim_ows}
use Rattle.http_wire.specs.declared.request.HttpField.{HttpField}

-- the names and the values of fields
abbrev pub pairs : List HttpField → List (List ℕ × List ℕ)
pairs fields = map (λ f. (f.name, f.value)) fields

-- the values of the fields of a name, in order (RFC 9110, 5.1: names are compared in either case)
abbrev pub values_of : List ℕ → List (List ℕ × List ℕ) → List (List ℕ)
values_of name fields = map (λ f. f.1) (filter (λ f. str_eq_ignore_ascii_case f.0 name) fields)

-- a byte of a host: a letter, a digit, or one of these
abbrev pub is_host_byte : ℕ → Bool
is_host_byte b = is_ascii_alphanumeric b || list_any (λ c. c == b) (codes "._-:[]")

-- There is a Host field, and each Host field has bytes of hosts alone (RFC 9112, 3.2; that there
-- may be several, if each is valid, is our own rule).
abbrev pub has_host : List (List ℕ × List ℕ) → Bool
has_host fields =
    nat_lt 0 (length (values_of (codes "Host") fields))
    && list_all (list_all is_host_byte) (values_of (codes "Host") fields)

-- what is between the commas of a value
abbrev pub parts_of : List ℕ → List (List ℕ)
parts_of [] = [] ∷ []
parts_of (b ∷ bytes) = if b == 44 then [] ∷ parts_of bytes else onto_first b (parts_of bytes)

-- a list of words has this word, in either case (RFC 9110, 5.6.1: spaces and tabs around a word do
-- not count)
abbrev pub lists_word : List ℕ → List ℕ → Bool
lists_word word value = list_any (λ p. str_eq_ignore_ascii_case (trim_ows p) word) (parts_of value)

-- a list of words has exactly this word
abbrev pub lists_name : List ℕ → List ℕ → Bool
lists_name name value = list_any (λ p. bytes_eq (trim_ows p) name) (parts_of value)

-- The connection ends after this message: it is of HTTP/1.0, or a Connection field says `close`
-- (RFC 9112, 9.3 and 9.6).
abbrev pub is_last : ℕ → List (List ℕ × List ℕ) → Bool
is_last minor fields =
    minor == 0 || list_any (lists_word (codes "close")) (values_of (codes "Connection") fields)

-- a request of HTTP/1.1 asks for the interim response 100 (RFC 9110, 10.1.1)
abbrev pub expects_continue : ℕ → List (List ℕ × List ℕ) → Bool
expects_continue minor fields =
    minor == 1
    && list_any (λ v. str_eq_ignore_ascii_case v (codes "100-continue"))
    (values_of (codes "Expect") fields)
