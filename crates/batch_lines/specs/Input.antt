-- What was read and written where lines were answered over a port.
use Rattle.std.specs.Prelude.{◌⊎◌, ℕ, ◌<◌, ◌≤◌, List, length, take, Option}
use Rattle.std.specs.Io.KnownBytes.{Consumes, Appends, IsAtEnd}
use Rattle.jm_json.specs.Call.{Call}
use Rattle.jm_json.specs.declared.invocation.Created.{Created}
use Rattle.jm_json.specs.declared.invocation.Replied.{Replied}
use Rattle.batch_lines.specs.declared.upload.Uploaded.{Uploaded}
use Rattle.batch_lines.specs.Lines.{lines_of, ended_lines}
use Rattle.batch_lines.specs.Replies.{AreReplies, HasBegunReplies}
use Rattle.batch_lines.specs.declared.limits.TheConstants.{MAX_INPUT_BYTES}

-- What is seen of a run: the bytes that its source had left and those that its output held, before
-- and after, where they are known, and how often each had failed.
pub record Seen : Type 0 where
  pub left : Option (List ℕ)
  pub left_after : Option (List ℕ)
  pub reads : ℕ
  pub reads_after : ℕ
  pub held : Option (List ℕ)
  pub held_after : Option (List ℕ)
  pub writes : ℕ
  pub writes_after : ℕ

-- what is seen of a source and of an output, by what is known of them and by their faults
abbrev pub seen : {A B : Type 0} → (A → Option (List ℕ)) → (A → ℕ) → A → A
    → (B → Option (List ℕ)) → (B → ℕ) → B → B → Seen
seen left_in faults_in source source' held_in faults_of out out' = record {
  left = left_in source;
  left_after = left_in source';
  reads = faults_in source;
  reads_after = faults_in source';
  held = held_in out;
  held_after = held_in out';
  writes = faults_of out;
  writes_after = faults_of out';
}

-- these bytes were read
abbrev pub HasRead : Seen → List ℕ → Type 0
HasRead v bytes = Consumes v.left v.left_after bytes

-- these bytes were written
abbrev pub HasWritten : Seen → List ℕ → Type 0
HasWritten v bytes = Appends v.held v.held_after bytes

-- the input was read to its end
abbrev pub HasReadAll : Seen → Type 0
HasReadAll v = IsAtEnd v.left_after

-- ---- over a port that goes from the state s to s' meanwhile

-- The input was read to its end, and the replies to all its lines are written, also to a last line
-- that no line feed ends.
abbrev pub HasAnsweredInput : {S : Type 0} → (S → Call → List Created → Replied → S → Type 0)
    → (S → List ℕ → Uploaded → S → Type 0) → S → S → Seen → Type 0
HasAnsweredInput answers uploads s s' v =
    (bytes : List ℕ) × (written : List ℕ) × HasRead v bytes × (length bytes ≤ MAX_INPUT_BYTES)
    × HasReadAll v × HasWritten v written × AreReplies answers uploads s s' (lines_of bytes) written

-- the reply to each line that ended in the bytes that were read is written
abbrev pub HasAnsweredEnded : {S : Type 0} → (S → Call → List Created → Replied → S → Type 0)
    → (S → List ℕ → Uploaded → S → Type 0) → S → S → Seen → Type 0
HasAnsweredEnded answers uploads s s' v =
    (bytes : List ℕ) × (written : List ℕ) × HasRead v bytes × HasWritten v written
    × AreReplies answers uploads s s' (ended_lines bytes) written

-- More bytes came than an input may have, and the reply to each line that ended in the first
-- `MAX_INPUT_BYTES` ones is written.
abbrev pub HasAnsweredWithin : {S : Type 0} → (S → Call → List Created → Replied → S → Type 0)
    → (S → List ℕ → Uploaded → S → Type 0) → S → S → Seen → Type 0
HasAnsweredWithin answers uploads s s' v =
    (bytes : List ℕ) × (written : List ℕ) × HasRead v bytes × (MAX_INPUT_BYTES < length bytes)
    × HasWritten v written × AreReplies answers uploads s s'
    (ended_lines (take MAX_INPUT_BYTES bytes)) written

-- What is written is a prefix of the replies to the lines that ended in the bytes that were read;
-- or the input was read to its end, and it is a prefix of the replies to all its lines.
abbrev pub HasBegunInput : {S : Type 0} → (S → Call → List Created → Replied → S → Type 0) → (S
    → List ℕ → Uploaded → S → Type 0) → (S → Call → List Created → S → Type 0) → (S → List ℕ → S
    → Type 0) → S → S → Seen → Type 0
HasBegunInput answers uploads stops halts s s' v =
    (bytes : List ℕ) × (written : List ℕ) × HasRead v bytes × HasWritten v written
    × (HasBegunReplies answers uploads stops halts s s' (ended_lines bytes) written
    ⊎ (HasReadAll v × HasBegunReplies answers uploads stops halts s s' (lines_of bytes) written))
