-- A needle in lower case is contained in the same texts, and a text in lower case contains the same needles.
use Rattle.std.proofs.Common.{◌≡◌, ℕ, List, [], ◌∷◌, ◌&&◌, ◌||◌, refl, ap₂}
use Rattle.std.specs.Prelude.{◌==◌}
use Rattle.std.specs.Char.{to_ascii_lowercase}
use Rattle.std.specs.Str.{str_to_ascii_lowercase}
use Rattle.std.proofs.lemmas.Str.Ascii.{lowercase-lowercase}
use Rattle.filter_terms.specs.Contains.{begins_with, contains, some_contains}

begins_lower : (needle text : List ℕ) → begins_with (str_to_ascii_lowercase needle) text ≡ begins_with needle text
begins_lower [] text = refl
begins_lower (n ∷ ns) [] = refl
begins_lower (n ∷ ns) (x ∷ xs) = ap₂ (λ a b. to_ascii_lowercase x == a && b) (lowercase-lowercase n) (begins_lower ns xs)

pub contains_lower : (needle text : List ℕ) → contains (str_to_ascii_lowercase needle) text ≡ contains needle text
contains_lower needle [] = begins_lower needle []
contains_lower needle (x ∷ xs) = ap₂ (λ a b. a || b) (begins_lower needle (x ∷ xs)) (contains_lower needle xs)

pub some_lower : (needle : List ℕ) (texts : List (List ℕ)) → some_contains (str_to_ascii_lowercase needle) texts ≡ some_contains needle texts
some_lower needle [] = refl
some_lower needle (t ∷ ts) = ap₂ (λ a b. a || b) (contains_lower needle t) (some_lower needle ts)

begins_in_lowered : (needle text : List ℕ) → begins_with needle (str_to_ascii_lowercase text) ≡ begins_with needle text
begins_in_lowered [] text = refl
begins_in_lowered (n ∷ ns) [] = refl
begins_in_lowered (n ∷ ns) (x ∷ xs) = ap₂ (λ a b. a == to_ascii_lowercase n && b) (lowercase-lowercase x) (begins_in_lowered ns xs)

pub contains_in_lowered : (needle text : List ℕ) → contains needle (str_to_ascii_lowercase text) ≡ contains needle text
contains_in_lowered [] [] = refl
contains_in_lowered (n ∷ ns) [] = refl
contains_in_lowered needle (x ∷ xs) = ap₂ (λ a b. a || b) (begins_in_lowered needle (x ∷ xs)) (contains_in_lowered needle xs)

pub ruleset in_lower_case = (contains_lower, some_lower)
