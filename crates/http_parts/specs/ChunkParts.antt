-- What contracts see of what is found at the beginning of some bytes.
use Rattle.std.specs.Prelude.{◌≡◌, ⊤, ℕ, ◌<◌, ◌≤◌, true, List, [], ◌∷◌, length, drop}
use Rattle.std.specs.Char.{is_ascii_hexdigit}
use Rattle.http_parts.specs.Bodies.{Body, BodyInvalid, BodyUnfinished, Whole}
use Rattle.http_parts.specs.Chunks.{ChunkLine, LineInvalid, LineUnfinished, Chunk, ChunkEnd, EndInvalid, EndUnfinished, Ends}
use Rattle.http_parts.specs.declared.chunk_lines.LineFound.{LineFound}
use Rattle.http_parts.specs.declared.chunk_lines.LineFound.TheVariants.{Invalid, Unfinished, Ended}
use Rattle.http_parts.specs.declared.chunk_ends.EndFound.{EndFound}
use Rattle.http_parts.specs.declared.chunk_ends.EndFound.TheVariants.{Invalid as NoEnd, Unfinished as NotEnded, Ended as IsEnded}
use Rattle.http_parts.specs.declared.limits.TheConstants.{MAX_CHUNK_LINE_BYTES}

-- each byte is a hexadecimal digit
abbrev pub AreHexDigits : List ℕ → Type 0
AreHexDigits [] = ⊤
AreHexDigits (b ∷ bytes) = (is_ascii_hexdigit b ≡ true) × AreHexDigits bytes

-- the line of a chunk
abbrev pub line_as : List ℕ → LineFound → ChunkLine
line_as bytes Invalid = LineInvalid
line_as bytes Unfinished = LineUnfinished
line_as bytes (Ended head) = Chunk head.size (drop head.bytes bytes)

-- the line is in the bytes and has at most so many
abbrev pub IsLineWithin : List ℕ → LineFound → Type 0
IsLineWithin bytes Invalid = ⊤
IsLineWithin bytes Unfinished = length bytes < MAX_CHUNK_LINE_BYTES
IsLineWithin bytes (Ended head) =
    (head.bytes ≤ length bytes) × (head.bytes ≤ MAX_CHUNK_LINE_BYTES)

-- the line end after the bytes of a chunk
abbrev pub end_as : List ℕ → EndFound → ChunkEnd
end_as bytes NoEnd = EndInvalid
end_as bytes NotEnded = EndUnfinished
end_as bytes (IsEnded count) = Ends (drop count bytes)

-- the lines after the last chunk, which end a body
abbrev pub trailer_as : List ℕ → List ℕ → EndFound → Body
trailer_as body bytes NoEnd = BodyInvalid
trailer_as body bytes NotEnded = BodyUnfinished
trailer_as body bytes (IsEnded count) = Whole body (drop count bytes)

-- the end is in the bytes; if it has not come, there are fewer bytes than this
abbrev pub IsEndWithin : ℕ → List ℕ → EndFound → Type 0
IsEndWithin most bytes NoEnd = ⊤
IsEndWithin most bytes NotEnded = length bytes < most
IsEndWithin most bytes (IsEnded count) = count ≤ length bytes
