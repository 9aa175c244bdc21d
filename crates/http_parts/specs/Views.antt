-- What contracts see of the code's own types.
use Rattle.std.specs.Prelude.{ℕ, ⊤, ◌≡◌, ◌≤◌, ◌-◌, List, length, take, drop}
use Rattle.http_parts.specs.Heads.{Beginning, HeadTooLong, Unfinished, Head, beginning_of}
use Rattle.http_parts.specs.declared.limits.TheConstants.{MAX_HEAD_BYTES}
use Rattle.http_parts.specs.declared.heads.HeadSpan.{HeadSpan}
use Rattle.http_parts.specs.declared.heads.Start.{Start}
use Rattle.http_parts.specs.declared.heads.Start.TheVariants.{TooLong, Unfinished as NotEnded, Ended}

-- the head between these byte offsets, and the bytes after it
abbrev pub head_at : List ℕ → HeadSpan → Beginning
head_at bytes at = Head (take (at.end - at.start) (drop at.start bytes)) (drop at.end bytes)

-- where a head is in some bytes, as what is at their beginning
abbrev pub start_as : List ℕ → Start → Beginning
start_as bytes TooLong = HeadTooLong
start_as bytes NotEnded = Unfinished
start_as bytes (Ended at) = head_at bytes at

-- the offsets are in order and in the bytes
abbrev pub IsWithin : List ℕ → HeadSpan → Type 0
IsWithin bytes at = (at.start ≤ at.end) × (at.end ≤ length bytes)

abbrev pub IsStartWithin : List ℕ → Start → Type 0
IsStartWithin bytes TooLong = ⊤
IsStartWithin bytes NotEnded = ⊤
IsStartWithin bytes (Ended at) = IsWithin bytes at

-- the head of the first message of the bytes is between these offsets
abbrev pub IsHeadAt : List ℕ → HeadSpan → Type 0
IsHeadAt bytes at = (beginning_of bytes ≡ head_at bytes at) × IsWithin bytes at

-- a head is within the most bytes of one
abbrev pub IsShort : Start → Type 0
IsShort TooLong = ⊤
IsShort NotEnded = ⊤
IsShort (Ended at) = at.end ≤ MAX_HEAD_BYTES
