-- How far the search for the end of a head has come.
use Rattle.std.specs.Prelude.{◌≡◌, ℕ, zero, suc, ◌+◌, ◌-◌, ◌<◌, ◌≤◌, ◌==◌, Bool, true, false, Option, None, Some, List, ◌++◌, length, drop, get_or, option_map}
use Rattle.mime_lines.specs.Lines.{lines}
use Rattle.http_parts.specs.Heads.{empty_bytes, after_empty, head_size}
use Rattle.http_parts.specs.declared.heads.HeadSearch.{HeadSearch}
use Rattle.http_parts.specs.declared.heads.HeadSize.{HeadSize}
use Rattle.http_parts.specs.declared.heads.FoundHead.{FoundHead}

-- a head after so many bytes and lines of it
abbrev pub after : ℕ → ℕ → HeadSize → HeadSize
after bytes lines size = record { bytes = bytes + size.bytes; lines = lines + size.lines }

-- Of these bytes so many lines of the head have ended, and the bytes from the line on that has not
-- ended are the rest. Without such a line the empty ones before the head were passed; with some the
-- head goes on in the rest.
abbrev pub GoesOn : ℕ → HeadSearch → List ℕ → List ℕ → Type 0
GoesOn zero s bytes rest =
    (s.line ≡ s.start) × (empty_bytes (lines bytes) ≡ s.start + empty_bytes (lines rest))
    × (after_empty (lines bytes) ≡ after_empty (lines rest))
GoesOn (suc n) s bytes rest =
    (empty_bytes (lines bytes) ≡ s.start)
    × (head_size (after_empty (lines bytes))
    ≡ option_map (after (s.line - s.start) (suc n)) (head_size (lines rest)))

-- The search has come so far in these bytes: the line that has not ended has no LF up to where it
-- looked, and the head goes on from this line, whatever bytes follow.
pub record IsSearched (bytes : List ℕ) (s : HeadSearch) : Type 0 where
  pub begun : s.start ≤ s.line
  pub passed : s.line ≤ s.seen
  pub within : s.seen ≤ length bytes
  pub few : s.lines ≤ s.line
  pub unended : (k : ℕ) → s.line ≤ k → k < s.seen → (get_or bytes k 0 == 10) ≡ false
  pub goes : (more : List ℕ) → GoesOn s.lines s (bytes ++ more) (drop s.line bytes ++ more)

-- the search after the line that ends here, which is empty or not; none if the head ends with it
abbrev pub search_passed : ℕ → HeadSearch → ℕ → Option HeadSearch
search_passed zero s end = Some (record { start = end; line = end; seen = end; lines = 0 })
search_passed (suc n) s end = None

abbrev pub search_after : HeadSearch → Bool → ℕ → Option HeadSearch
search_after s false end =
    Some (record { start = s.start; line = end; seen = end; lines = s.lines + 1 })
search_after s true end = search_passed s.lines s end

-- the head of these bytes begins here, after the empty lines, and has this size
pub record IsFound (bytes : List ℕ) (f : FoundHead) : Type 0 where
  pub empty : empty_bytes (lines bytes) ≡ f.start
  pub size : head_size (after_empty (lines bytes)) ≡ Some f.size
  pub within : f.start + f.size.bytes ≤ length bytes
