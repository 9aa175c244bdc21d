-- What is before the first address of a field, and where a display-name has two spaces.
use Rattle.std.specs.Prelude.{ℕ, Bool, false, ◌&&◌, ◌==◌, List, [], ◌∷◌, Option, if◌then◌else◌}
use Rattle.mime_lines.specs.Written.{fold}
use Rattle.header_forms.specs.WrittenForms.{is_in_words}

-- before an address of this name: encoded-words begin on a line of their own
abbrev pub lead_before : Option (List ℕ) → List ℕ
lead_before name = if is_in_words name then fold else 32 ∷ []

abbrev pub begins_with_two_spaces : List ℕ → Bool
begins_with_two_spaces [] = false
begins_with_two_spaces (b ∷ []) = false
begins_with_two_spaces (b ∷ c ∷ cs) = b == 32 && c == 32
