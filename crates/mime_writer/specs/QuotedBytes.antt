-- A byte as quoted-printable writes it, by whether it is the last of its line.
use Rattle.std.specs.Prelude.{ℕ, Bool, ◌&&◌, not, ◌==◌, List, [], ◌∷◌, if◌then◌else◌}
use Rattle.mime_codec.specs.QuotedText.{escape, is_literal}

-- whether it stands for itself: no space stands at the end of a line
abbrev pub is_plain : Bool → ℕ → Bool
is_plain is_last b = is_literal b && not (is_last && b == 32)

abbrev pub text_if_plain : Bool → ℕ → List ℕ
text_if_plain is_plain b = if is_plain then b ∷ [] else escape b

abbrev pub text_of_byte : Bool → ℕ → List ℕ
text_of_byte is_last b = text_if_plain (is_plain is_last b) b

-- how many characters a line may have with it; the soft line break takes one if it is not the last
abbrev pub room_of : Bool → ℕ
room_of is_last = if is_last then 76 else 75
