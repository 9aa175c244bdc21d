-- Some bytes as a list of lines (RFC 5322, section 2.1; an LF alone ends a line too).
use Rattle.std.specs.Prelude.{ℕ, Bool, false, ◌&&◌, ◌||◌, ◌==◌, List, [], ◌∷◌, if◌then◌else◌}
use Rattle.std.specs.List.{onto_first, flat_map}

-- the lines, each with its line end; the last may have none. Joined they are the bytes.
abbrev pub lines : List ℕ → List (List ℕ)
lines [] = []
lines (b ∷ bs) = if b == 10 then (b ∷ []) ∷ lines bs else onto_first b (lines bs)

-- a line end and nothing else: an LF, or a CR and an LF
abbrev pub is_line_end : List ℕ → Bool
is_line_end [] = false
is_line_end (b ∷ []) = b == 10
is_line_end (b ∷ c ∷ []) = b == 13 && c == 10
is_line_end (b ∷ c ∷ d ∷ bs) = false

-- a line, or several, without the line end at the end
abbrev pub text : List ℕ → List ℕ
text [] = []
text (b ∷ bs) = if is_line_end (b ∷ bs) then [] else b ∷ text bs

-- white space within a line: space or tab
abbrev pub is_blank : ℕ → Bool
is_blank b = b == 32 || b == 9

-- a value that was folded over several lines, as one line: without its line ends (RFC 5322, section
-- 2.2.3)
abbrev pub unfolded : List ℕ → List ℕ
unfolded bytes = flat_map text (lines bytes)
