-- A body in chunks (RFC 9112, 7.1).
use Rattle.std.specs.Prelude.{ℕ, zero, suc, ◌+◌, ◌==◌, nat_lt, nat_le, Bool, true, not, ◌&&◌, List, [], ◌∷◌, ◌++◌, length, take, drop, Option, None, Some, if◌then◌else◌}
use Rattle.std.specs.List.{prefix_len}
use Rattle.std.specs.Char.{is_ascii_hexdigit}
use Rattle.std.specs.Str.Parse.{digits_value}
use Rattle.httparse.specs.Grammar.{skip_ows}
use Rattle.mime_lines.specs.Lines.{lines, text}
use Rattle.http_parts.specs.Heads.{head_size}
use Rattle.http_parts.specs.declared.heads.HeadSize.{HeadSize}
use Rattle.http_parts.specs.Bodies.{Body, BodyInvalid, BodyTooLong, BodyUnfinished, Whole}
use Rattle.http_parts.specs.declared.limits.TheConstants.{MAX_CHUNK_LINE_BYTES, MAX_TRAILER_BYTES, MAX_CHUNK_DIGITS}

-- the text after the digits and the white space of a chunk line: nothing, or an extension, which is
-- ignored (RFC 9112, 7.1.1)
abbrev pub is_extension : List ℕ → Bool
is_extension [] = true
is_extension (b ∷ bytes) = b == 59

abbrev pub digit_count : List ℕ → ℕ
digit_count text = prefix_len is_ascii_hexdigit text

-- the size that the text of a chunk line says: 1 to 16 hexadecimal digits, spaces and tabs, and
-- perhaps an extension
abbrev pub chunk_size : List ℕ → Option ℕ
chunk_size text =
    if nat_lt 0 (digit_count text) && nat_le (digit_count text) MAX_CHUNK_DIGITS
    && is_extension (skip_ows (drop (digit_count text) text))
    then Some (digits_value 16 (take (digit_count text) text))
    else None

-- how many bytes are before the first LF
abbrev pub line_feed_at : List ℕ → ℕ
line_feed_at bytes = prefix_len (λ b. not (b == 10)) bytes

-- a first line that has its LF
abbrev pub has_line : List ℕ → Bool
has_line bytes = nat_lt (line_feed_at bytes) (length bytes)

-- how many bytes the first line has, its LF included
abbrev pub line_bytes : List ℕ → ℕ
line_bytes bytes = line_feed_at bytes + 1

-- the line at which a chunk begins: invalid, unfinished, or of this size, and these bytes follow
pub data ChunkLine : Type 0 where
  LineInvalid LineUnfinished : ChunkLine
  Chunk : (size : ℕ) (rest : List ℕ) → ChunkLine

abbrev pub chunk_line_by : Option ℕ → List ℕ → ChunkLine
chunk_line_by None rest = LineInvalid
chunk_line_by (Some size) rest = Chunk size rest

-- A chunk line has at most MAX_CHUNK_LINE_BYTES bytes, its LF included. What it says is decided
-- when its LF is there, or that many bytes.
abbrev pub chunk_line : List ℕ → ChunkLine
chunk_line bytes =
    if has_line bytes && nat_le (line_bytes bytes) MAX_CHUNK_LINE_BYTES
    then chunk_line_by (chunk_size (text (take (line_bytes bytes) bytes)))
    (drop (line_bytes bytes) bytes)
    else if nat_le MAX_CHUNK_LINE_BYTES (length bytes) then LineInvalid else LineUnfinished

-- after the last chunk: lines up to the first empty one, which are ignored (RFC 9112, 7.1.2)
abbrev pub trailer_by : List ℕ → List ℕ → Option HeadSize → Body
trailer_by body bytes None =
    if nat_le MAX_TRAILER_BYTES (length bytes) then BodyInvalid else BodyUnfinished
trailer_by body bytes (Some size) =
    if nat_lt MAX_TRAILER_BYTES size.bytes then BodyInvalid else Whole body (drop size.bytes bytes)

abbrev pub trailer : List ℕ → List ℕ → Body
trailer body bytes = trailer_by body bytes (head_size (lines bytes))

-- the CR LF after the bytes of a chunk: it is invalid from its first other byte on
pub data ChunkEnd : Type 0 where
  EndInvalid EndUnfinished : ChunkEnd
  Ends : (rest : List ℕ) → ChunkEnd

abbrev pub chunk_end : List ℕ → ChunkEnd
chunk_end [] = EndUnfinished
chunk_end (b ∷ []) = if b == 13 then EndUnfinished else EndInvalid
chunk_end (b ∷ c ∷ rest) = if b == 13 && c == 10 then Ends rest else EndInvalid

-- what one chunk comes to: the body is settled, or it continues after the chunk
pub data ChunkStep : Type 0 where
  Settled : Body → ChunkStep
  GoesOn : (body rest : List ℕ) → ChunkStep

abbrev pub after_chunk : List ℕ → ChunkEnd → ChunkStep
after_chunk body EndInvalid = Settled BodyInvalid
after_chunk body EndUnfinished = Settled BodyUnfinished
after_chunk body (Ends rest) = GoesOn body rest

-- A chunk of size 0 is the last one. If the body passes the limit by a chunk's size, it is too long
-- from that chunk line on.
abbrev pub after_line : ℕ → List ℕ → ChunkLine → ChunkStep
after_line limit body LineInvalid = Settled BodyInvalid
after_line limit body LineUnfinished = Settled BodyUnfinished
after_line limit body (Chunk size rest) =
    if size == 0 then Settled (trailer body rest)
    else if nat_lt limit (length body + size) then Settled BodyTooLong
    else if nat_lt (length rest) size then Settled BodyUnfinished
    else after_chunk (body ++ take size rest) (chunk_end (drop size rest))

-- what the next chunk of a body comes to, after the bytes of the body that came before it
abbrev pub chunk_step : ℕ → List ℕ → List ℕ → ChunkStep
chunk_step limit body bytes = after_line limit body (chunk_line bytes)

abbrev pub body_by : (List ℕ → List ℕ → Body) → ChunkStep → Body
body_by go (Settled body) = body
body_by go (GoesOn body rest) = go body rest

-- The body of which these bytes are read, and whose next chunk line begins the others. `steps` is
-- at least the number of its chunk lines; one more than the number of bytes always is.
abbrev pub chunks : ℕ → ℕ → List ℕ → List ℕ → Body
chunks zero limit body bytes = BodyUnfinished
chunks (suc steps) limit body bytes =
    body_by (chunks steps limit) (chunk_step limit body bytes)

-- a body in chunks
abbrev pub chunked_body : ℕ → List ℕ → Body
chunked_body limit bytes = chunks (length bytes + 1) limit [] bytes
