-- Base64 (RFC 2045, section 6.8): characters outside the alphabet are ignored, the data end at the
-- first equals sign, and bits that fill no byte are dropped.
use Rattle.std.specs.Prelude.{ℕ, ◌+◌, ◌-◌, ◌*◌, ◌/◌, ◌%◌, ◌==◌, Bool, ◌||◌, List, [], ◌∷◌, Option, None, Some, if◌then◌else◌}
use Rattle.mime_codec.specs.Quoted.{is_between}

-- the six bits of a character of the alphabet: A to Z, a to z, 0 to 9, + and /
abbrev pub letter : ℕ → Option ℕ
letter b =
    if is_between 65 90 b then Some (b - 65)
    else (if is_between 97 122 b then Some (b - 71)
    else (if is_between 48 57 b then Some (b + 4)
    else (if b == 43 then Some 62 else (if b == 47 then Some 63 else None))))

-- whether it is of the alphabet
abbrev pub is_letter : ℕ → Bool
is_letter b =
    is_between 65 90 b || is_between 97 122 b || is_between 48 57 b || b == 43 || b == 47

abbrev pub with_letter : Option ℕ → List ℕ → List ℕ
with_letter None later = later
with_letter (Some value) later = value ∷ later

-- the letters before the first equals sign
abbrev pub letters : List ℕ → List ℕ
letters [] = []
letters (b ∷ bs) = if b == 61 then [] else with_letter (letter b) (letters bs)

-- their bits, six each, as bytes
abbrev pub packed : List ℕ → List ℕ
packed [] = []
packed (a ∷ []) = []
packed (a ∷ b ∷ []) = (a * 4 + b / 16) ∷ []
packed (a ∷ b ∷ c ∷ []) = (a * 4 + b / 16) ∷ ((b % 16) * 16 + c / 4) ∷ []
packed (a ∷ b ∷ c ∷ d ∷ rest) =
    (a * 4 + b / 16) ∷ ((b % 16) * 16 + c / 4) ∷ ((c % 4) * 64 + d) ∷ packed rest

abbrev pub base64 : List ℕ → List ℕ
base64 bytes = packed (letters bytes)
