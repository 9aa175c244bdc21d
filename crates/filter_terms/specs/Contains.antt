-- Whether a text contains another one. ASCII letters count in either case (RFC 8621, 4.4.1 leaves
-- the comparison to the server).
use Rattle.std.specs.Prelude.{◌≡◌, ◌<◌, ℕ, List, [], ◌∷◌, length, Bool, true, false, ◌&&◌, ◌||◌, ◌==◌}
use Rattle.std.specs.Char.{to_ascii_lowercase}
use Rattle.std.specs.List.{list_any}

-- the text begins with the needle
abbrev pub begins_with : List ℕ → List ℕ → Bool
begins_with [] text = true
begins_with (n ∷ ns) [] = false
begins_with (n ∷ ns) (x ∷ xs) = to_ascii_lowercase x == to_ascii_lowercase n && begins_with ns xs

-- the needle begins at some byte of the text, or at its end
abbrev pub contains : List ℕ → List ℕ → Bool
contains needle [] = begins_with needle []
contains needle (x ∷ xs) = begins_with needle (x ∷ xs) || contains needle xs

-- What follows the first byte of a text that is this byte in either case: a needle that begins with
-- the byte begins there or is contained in what follows.
pub record IsAfterFirst (byte : ℕ) (text after : List ℕ) : Type 0 where
  pub shorter : length after < length text
  pub same : (ns : List ℕ) → contains (byte ∷ ns) text
      ≡ (begins_with ns after || contains (byte ∷ ns) after)

-- one of the texts contains the needle
abbrev pub some_contains : List ℕ → List (List ℕ) → Bool
some_contains needle texts = list_any (λ text. contains needle text) texts
