-- That pieces are parts of a message's bytes, at their byte offsets.
use Rattle.std.specs.Prelude.{◌≡◌, ℕ, List, [], ◌∷◌, ◌++◌, drop}
use Rattle.mime_cut.specs.Cut.{Piece}

-- the message has these bytes at this byte offset
abbrev pub HasBytesAt : List ℕ → ℕ → List ℕ → Type 0
HasBytesAt message at xs = (rest : List ℕ) × (drop at message ≡ xs ++ rest)

-- it has each piece at the piece's byte offset
abbrev pub HasPieces : List ℕ → List Piece → Type 0
HasPieces message [] = Unit {0}
HasPieces message (p ∷ ps) = HasBytesAt message p.at p.bytes × HasPieces message ps
