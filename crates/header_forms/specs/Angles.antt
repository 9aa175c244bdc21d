-- The texts between angle brackets: identifiers of messages and URLs (RFC 8621, sections 4.1.2.5
-- and 4.1.2.7).
use Rattle.std.specs.Prelude.{ℕ, Bool, true, false, ◌==◌, List, [], ◌∷◌, map, filter, Option, Some, None, if◌then◌else◌}
use Rattle.std.specs.Char.{is_ascii_whitespace}
use Rattle.header_forms.specs.Texts.{without}

-- what a text has, read from a byte offset on: `outside` are the texts between brackets, if no
-- bracket is open there; `inside`, if one is open there, is the text up to the bracket that closes
-- it and the texts after that
pub record Read : Type 0 where
  pub outside : List (List ℕ)
  pub inside : Option (List ℕ × List (List ℕ))

-- a bracket that isn't closed gives no text
abbrev pub opened : Option (List ℕ × List (List ℕ)) → List (List ℕ)
opened None = []
opened (Some x) = x.0 ∷ x.1

abbrev pub onto : ℕ → Option (List ℕ × List (List ℕ)) → Option (List ℕ × List (List ℕ))
onto b None = None
onto b (Some x) = Some (b ∷ x.0, x.1)

abbrev pub read : List ℕ → Read
read [] = record { outside = []; inside = None }
read (b ∷ bs) = let later = read bs in record {
  outside = if b == 60 then opened later.inside else later.outside;
  inside = if b == 62 then Some ([], later.outside) else onto b later.inside;
}

abbrev pub has_some : List ℕ → Bool
has_some [] = false
has_some (b ∷ bs) = true

-- without their white space, and without those that are empty then
abbrev pub shown_texts : List (List ℕ) → List (List ℕ)
shown_texts texts = filter has_some (map (without is_ascii_whitespace) texts)

-- the texts between brackets
abbrev pub angle_texts : List ℕ → List (List ℕ)
angle_texts text = shown_texts (read text).outside
