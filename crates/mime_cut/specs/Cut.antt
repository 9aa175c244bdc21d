-- The pieces of a multipart's body, from its lines (RFC 2046, section 5.1.1).
use Rattle.std.specs.Prelude.{ℕ, ◌+◌, Bool, true, false, List, [], ◌∷◌, ◌++◌, length, if◌then◌else◌}
use Rattle.mime_lines.specs.Lines.{text}
use Rattle.mime_cut.specs.declared.line_kind.LineKind.{LineKind}
use Rattle.mime_cut.specs.DelimiterLines.{line_kind, by_line_kind}

-- some bytes of a message, and the byte offset of the first
pub record Piece : Type 0 where
  pub at : ℕ
  pub bytes : List ℕ

abbrev pub piece : ℕ → List ℕ → Piece
piece at bytes = record { at = at; bytes = bytes }

-- the first piece with these bytes, which begin at `at`, before its own
abbrev pub grown : ℕ → List ℕ → List Piece → List Piece
grown at front [] = []
grown at front (p ∷ ps) = piece at (front ++ p.bytes) ∷ ps

-- whether the next line is a delimiter line or the close-delimiter
abbrev pub is_delimiter_next : List ℕ → List (List ℕ) → Bool
is_delimiter_next boundary [] = false
is_delimiter_next boundary (l ∷ ls) = by_line_kind (line_kind boundary l) false true true

-- The pieces of the lines after a delimiter line, the first line at `at`. Each delimiter line ends
-- a piece and begins the next; the close-delimiter ends the last. The line end before either
-- belongs to it. The epilogue, which is what follows the close-delimiter, is left out. Without a
-- close-delimiter the last piece ends with the lines.
abbrev pub pieces : List ℕ → ℕ → List (List ℕ) → List Piece
pieces boundary at [] = piece at [] ∷ []
pieces boundary at (l ∷ ls) =
    by_line_kind (line_kind boundary l)
    (grown at (if is_delimiter_next boundary ls then text l else l)
    (pieces boundary (at + length l) ls))
    (piece at [] ∷ pieces boundary (at + length l) ls)
    (piece at [] ∷ [])

-- The pieces of a multipart's lines, the first line at `at`. The preamble, which is the lines
-- before the first delimiter line, is left out; without a delimiter line there is no piece.
abbrev pub cut : List ℕ → ℕ → List (List ℕ) → List Piece
cut boundary at [] = []
cut boundary at (l ∷ ls) =
    by_line_kind (line_kind boundary l) (cut boundary (at + length l) ls)
    (pieces boundary (at + length l) ls) []

-- the pieces after a line of this kind: a delimiter line begins some, another line or the
-- close-delimiter none
abbrev pub after_line : List ℕ → LineKind → ℕ → List (List ℕ) → List Piece
after_line boundary kind at ls = by_line_kind kind [] (pieces boundary at ls) []
