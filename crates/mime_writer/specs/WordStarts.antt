-- Where an encoded-word may begin.
use Rattle.std.specs.Prelude.{ℕ, Bool, false, ◌&&◌, ◌==◌, List, [], ◌∷◌}

-- whether =? begins a text
abbrev pub begins_word : List ℕ → Bool
begins_word [] = false
begins_word (b ∷ []) = false
begins_word (b ∷ c ∷ cs) = b == 61 && c == 63
