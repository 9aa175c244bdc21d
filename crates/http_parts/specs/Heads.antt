-- Where the head of an HTTP/1.x message ends (RFC 9112, 2.1 and 2.2), of requests and of responses.
-- A line ends with LF or with CR LF.
use Rattle.std.specs.Prelude.{◌-◌, ℕ, ◌+◌, nat_lt, nat_le, ◌||◌, List, [], ◌∷◌, length, take, drop, Option, None, Some, option_map, if◌then◌else◌}
use Rattle.mime_lines.specs.Lines.{lines, is_line_end}
use Rattle.http_parts.specs.declared.heads.HeadSize.{HeadSize}
use Rattle.http_parts.specs.declared.limits.TheConstants.{MAX_HEAD_BYTES, MAX_HEAD_FIELDS}

-- how many bytes the empty lines at the beginning have (RFC 9112, 2.2: a server ignores them)
abbrev pub empty_bytes : List (List ℕ) → ℕ
empty_bytes [] = 0
empty_bytes (line ∷ more) = if is_line_end line then length line + empty_bytes more else 0

-- the lines after these
abbrev pub after_empty : List (List ℕ) → List (List ℕ)
after_empty [] = []
after_empty (line ∷ more) = if is_line_end line then after_empty more else line ∷ more

-- a head with one more line before the others, of so many bytes
abbrev pub one_line_more : ℕ → HeadSize → HeadSize
one_line_more bytes size = record { bytes = bytes + size.bytes; lines = 1 + size.lines }

-- how many bytes there are up to the end of the first empty line, and how many lines before it
abbrev pub head_size : List (List ℕ) → Option HeadSize
head_size [] = None
head_size (line ∷ more) =
    if is_line_end line
    then Some (record { bytes = length line; lines = 0 })
    else option_map (one_line_more (length line)) (head_size more)

-- The beginning of a message: its head is too long; or it has not ended; or these bytes are its
-- head, without the empty lines before it, and those follow.
pub data Beginning : Type 0 where
  HeadTooLong Unfinished : Beginning
  Head : (head rest : List ℕ) → Beginning

-- A head ends with its first empty line. It is too long if the first MAX_HEAD_BYTES bytes do not
-- hold all of it, empty lines before it included, or if more than MAX_HEAD_FIELDS lines are between
-- its first line and the empty one.
abbrev pub beginning_by : List ℕ → ℕ → Option HeadSize → Beginning
beginning_by bytes empty None =
    if nat_le MAX_HEAD_BYTES (length bytes) then HeadTooLong else Unfinished
beginning_by bytes empty (Some size) =
    if nat_lt MAX_HEAD_BYTES (empty + size.bytes) || nat_lt (1 + MAX_HEAD_FIELDS) size.lines
    then HeadTooLong
    else Head (take size.bytes (drop empty bytes)) (drop (empty + size.bytes) bytes)

abbrev pub beginning_of : List ℕ → Beginning
beginning_of bytes =
    beginning_by bytes (empty_bytes (lines bytes)) (head_size (after_empty (lines bytes)))

-- how many bytes there are after the empty lines at the beginning
abbrev pub begun_bytes : List ℕ → ℕ
begun_bytes bytes = length bytes - empty_bytes (lines bytes)
