-- How many escapes of quoted-printable a text has.
use Rattle.std.specs.Prelude.{ℕ, ◌+◌, Bool, false, List, [], ◌∷◌, if◌then◌else◌}
use Rattle.mime_codec.specs.Quoted.{is_escape}

-- whether an escape is at the beginning
abbrev pub starts_escape : List ℕ → Bool
starts_escape [] = false
starts_escape (b ∷ []) = false
starts_escape (b ∷ c ∷ []) = false
starts_escape (b ∷ c ∷ d ∷ bs) = is_escape b c d

-- how many there are. None begins within another, since its digits are no equals signs.
abbrev pub escapes : List ℕ → ℕ
escapes [] = 0
escapes (b ∷ bs) = (if starts_escape (b ∷ bs) then 1 else 0) + escapes bs
