-- What is done with a piece of the input, which follows the bytes of a line that is not ended. Of
-- that line only the first bytes are held, as many as settle its answer.
use Rattle.std.specs.Prelude.{◌≡◌, ℕ, List, ◌++◌, take, cond, Option}
use Rattle.std.specs.Io.KnownBytes.{Appends}
use Rattle.jm_json.specs.Call.{Call}
use Rattle.jm_json.specs.declared.invocation.Created.{Created}
use Rattle.jm_json.specs.declared.invocation.Replied.{Replied}
use Rattle.batch_lines.specs.declared.upload.Uploaded.{Uploaded}
use Rattle.batch_lines.specs.Lines.{IsOneLine, IsCut}
use Rattle.batch_lines.specs.Replies.{AreReplies, HasBegunReplies, IsLineReply, StopsInLine, begins_with_plus}
use Rattle.batch_lines.specs.declared.limits.TheConstants.{MAX_HELD_REQUEST_BYTES, MAX_HELD_UPLOAD_BYTES}

-- how many bytes of a line are held: of an upload more than of a request
abbrev pub most_held : List ℕ → ℕ
most_held line = cond (begins_with_plus line) MAX_HELD_UPLOAD_BYTES MAX_HELD_REQUEST_BYTES

-- these bytes are held of a line
abbrev pub IsHeld : List ℕ → List ℕ → Type 0
IsHeld held_line line = held_line ≡ take (most_held line) line

-- Whatever line is held: the lines that end in the piece are answered, their replies are written,
-- and of the line after them the first bytes are held.
abbrev pub HasTakenPiece : {S : Type 0} → (S → Call → List Created → Replied → S → Type 0) → (S
    → List ℕ → Uploaded → S → Type 0) → S → S → List ℕ → List ℕ → List ℕ → Option (List ℕ)
    → Option (List ℕ) → Type 0
HasTakenPiece answers uploads s s' held_line held_line' piece out out' =
    (last : List ℕ) → IsOneLine last → IsHeld held_line last
    → (lines : List (List ℕ)) × (next : List ℕ) × (written : List ℕ) × Appends out out' written
    × IsCut (last ++ piece) lines next × AreReplies answers uploads s s' lines written
    × IsHeld held_line' next

-- Whatever line is held: of the lines that end in the piece the first ones were answered, and what
-- was written is a prefix of the replies.
abbrev pub HasBegunPiece : {S : Type 0} → (S → Call → List Created → Replied → S → Type 0) → (S
    → List ℕ → Uploaded → S → Type 0) → (S → Call → List Created → S → Type 0) → (S → List ℕ → S
    → Type 0) → S → S → List ℕ → List ℕ → Option (List ℕ) → Option (List ℕ) → Type 0
HasBegunPiece answers uploads stops halts s s' held_line piece out out' =
    (last : List ℕ) → IsOneLine last → IsHeld held_line last
    → (lines : List (List ℕ)) × (next : List ℕ) × (written : List ℕ) × Appends out out' written
    × IsCut (last ++ piece) lines next × HasBegunReplies answers uploads stops halts s s' lines
    written

-- of what waited, some was written, and this waits now
abbrev pub HasPut : List ℕ → List ℕ → Option (List ℕ) → Option (List ℕ) → Type 0
HasPut waited waits out out' =
    (written : List ℕ) × Appends out out' written × (waited ≡ written ++ waits)

-- a line was answered, and its reply put after those that wait
abbrev pub HasAnsweredLine : {S : Type 0} → (S → Call → List Created → Replied → S → Type 0) → (S
    → List ℕ → Uploaded → S → Type 0) → S → S → List ℕ → List ℕ → List ℕ → Type 0
HasAnsweredLine answers uploads s s' line waited waits =
    (reply : List ℕ) × IsLineReply answers uploads s s' line reply × (waits ≡ waited ++ reply)

-- a line's answer ended out of memory, and a prefix of its reply was put after those that wait
abbrev pub HasStopped : {S : Type 0} → (S → Call → List Created → Replied → S → Type 0) → (S
    → List ℕ → Uploaded → S → Type 0) → (S → Call → List Created → S → Type 0) → (S → List ℕ → S
    → Type 0) → S → S → List ℕ → List ℕ → List ℕ → Type 0
HasStopped answers uploads stops halts s s' line waited waits =
    (part : List ℕ) × StopsInLine answers uploads stops halts s s' line part
    × (waits ≡ waited ++ part)

-- a line was answered, and some of what then waited was written
abbrev pub HasAnsweredAndPut : {S : Type 0} → (S → Call → List Created → Replied → S → Type 0)
    → (S → List ℕ → Uploaded → S → Type 0) → S → S → List ℕ → List ℕ → List ℕ → Option (List ℕ)
    → Option (List ℕ) → Type 0
HasAnsweredAndPut answers uploads s s' line waited waits out out' =
    (all : List ℕ) × HasAnsweredLine answers uploads s s' line waited all
    × HasPut all waits out out'

-- a line's answer ended early, or writing did, and some of what waited was written
abbrev pub HasStoppedAndPut : {S : Type 0} → (S → Call → List Created → Replied → S → Type 0)
    → (S → List ℕ → Uploaded → S → Type 0) → (S → Call → List Created → S → Type 0) → (S → List ℕ
    → S → Type 0) → S → S → List ℕ → List ℕ → Option (List ℕ) → Option (List ℕ) → Type 0
HasStoppedAndPut answers uploads stops halts s s' line waited out out' =
    (all : List ℕ) × HasStopped answers uploads stops halts s s' line waited all
    × ((lost : List ℕ) × HasPut all lost out out')
