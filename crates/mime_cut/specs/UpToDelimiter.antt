-- The lines up to the first delimiter line or close-delimiter, and that line itself: how many bytes
-- are before it, the line end before it left out; how many there are with it; and what it is.
-- Without such a line both counts are of all bytes.
use Rattle.std.specs.Prelude.{ℕ, ◌+◌, List, [], ◌∷◌, length}
use Rattle.mime_lines.specs.Lines.{text}
use Rattle.mime_cut.specs.DelimiterLines.{line_kind, by_line_kind}
use Rattle.mime_cut.specs.declared.line_kind.LineKind.{LineKind}
use Rattle.mime_cut.specs.declared.line_kind.LineKind.TheVariants.{Other, DelimiterLine, CloseDelimiter}

pub record UpToDelimiter : Type 0 where
  pub before : ℕ
  pub size : ℕ
  pub kind : LineKind

abbrev pub up_to_delimiter : List ℕ → ℕ → ℕ → List (List ℕ) → UpToDelimiter
up_to_delimiter boundary before size [] = record { before = size; size = size; kind = Other }
up_to_delimiter boundary before size (l ∷ ls) =
    by_line_kind (line_kind boundary l)
    (up_to_delimiter boundary (size + length (text l)) (size + length l) ls)
    (record { before = before; size = size + length l; kind = DelimiterLine })
    (record { before = before; size = size + length l; kind = CloseDelimiter })

-- the lines after that line
abbrev pub lines_after : List ℕ → List (List ℕ) → List (List ℕ)
lines_after boundary [] = []
lines_after boundary (l ∷ ls) = by_line_kind (line_kind boundary l) (lines_after boundary ls) ls ls
