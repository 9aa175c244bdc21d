-- A multipart's body as a careful writer writes it (RFC 2046, section 5.1.1).
use Rattle.std.specs.Prelude.{◌≡◌, ℕ, List, [], ◌∷◌, ◌++◌}
use Rattle.std.specs.List.{AllByRecursion}
use Rattle.mime_lines.specs.Lines.{lines}
use Rattle.mime_lines.specs.Written.{crlf}
use Rattle.mime_cut.specs.declared.line_kind.LineKind.TheVariants.{Other}
use Rattle.mime_cut.specs.DelimiterLines.{dashes, line_kind}

-- Pieces, each after a delimiter line, and the close-delimiter. A line end is before each of these
-- but the first, and no line end is at the end.
abbrev pub multipart_text : List ℕ → List (List ℕ) → List ℕ
multipart_text boundary [] = dashes ++ (boundary ++ dashes)
multipart_text boundary (p ∷ ps) =
    (dashes ++ boundary) ++ (crlf ++ (p ++ (crlf ++ multipart_text boundary ps)))

-- no line of a piece is a delimiter line or the close-delimiter, nor becomes one by the line end
-- that follows the piece
abbrev pub HasNoDelimiter : List ℕ → List ℕ → Type 0
HasNoDelimiter boundary p =
    AllByRecursion (λ l. line_kind boundary l ≡ Other) (lines (p ++ crlf))
