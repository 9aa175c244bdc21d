-- What the fields of a head say of the length of the body (RFC 9112, 6).
use Rattle.std.specs.Prelude.{ℕ, Bool, ◌&&◌, nat_lt, List, [], ◌∷◌, length, codes, if◌then◌else◌}
use Rattle.std.specs.List.{list_all}
use Rattle.std.specs.Char.{is_ascii_digit}
use Rattle.std.specs.Str.{str_eq_ignore_ascii_case}
use Rattle.std.specs.Str.Parse.{digits_value}
use Rattle.http_wire.specs.Fields.{values_of}

-- what the fields say: they contradict each other or the grammar; the body has so many bytes; it
-- comes in chunks; or no field says its length
pub data Framing : Type 0 where
  InvalidLength Chunked NotSaid : Framing
  Sized : ℕ → Framing

-- one digit or more, and nothing else
abbrev pub is_number : List ℕ → Bool
is_number text = nat_lt 0 (length text) && list_all is_ascii_digit text

-- One Content-Length of digits alone, or one Transfer-Encoding of `chunked`, in either case; both,
-- or two of one, are invalid (RFC 9112, 6.3: a server refuses what could be smuggled).
abbrev pub framing_by : List (List ℕ) → List (List ℕ) → Framing
framing_by [] [] = NotSaid
framing_by (size ∷ []) [] =
    if is_number size then Sized (digits_value 10 size) else InvalidLength
framing_by [] (coding ∷ []) =
    if str_eq_ignore_ascii_case coding (codes "chunked") then Chunked else InvalidLength
framing_by (size ∷ []) (coding ∷ codings) = InvalidLength
framing_by (size ∷ other ∷ sizes) codings = InvalidLength
framing_by [] (coding ∷ other ∷ codings) = InvalidLength

abbrev pub framing_of : List (List ℕ × List ℕ) → Framing
framing_of fields =
    framing_by (values_of (codes "Content-Length") fields)
    (values_of (codes "Transfer-Encoding") fields)
