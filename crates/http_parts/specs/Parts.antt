-- What the functions do that read a part of a message from a link: a line, the bytes of a chunk, a
-- body.
use Rattle.std.specs.Prelude.{◌≡◌, ⊤, ℕ, ◌<◌, ◌≤◌, ◌+◌, List, [], ◌++◌, length, take, drop, Option, None, Some}
use Rattle.std.specs.Io.KnownBytes.{Consumes, IsAtEnd}
use Rattle.jm_edge.specs.Causes.{Rose}
use Rattle.http_parts.specs.Bodies.{Whole}
use Rattle.http_parts.specs.Chunks.{chunk_line, Chunk, chunk_step, Settled, GoesOn}
use Rattle.http_parts.specs.declared.chunk_lines.ChunkHead.{ChunkHead}
use Rattle.http_parts.specs.declared.fault.WireFault.{WireFault}
use Rattle.http_parts.specs.declared.fault.WireFault.TheVariants.{End, ReadFault as LinkFault, WriteFault, BadHead, HeadTooLong, BodyTooLong, CutOff, NoMemory as OutOfMemory}
use Rattle.http_parts.specs.declared.limits.TheConstants.{MAX_CHUNK_LINE_BYTES}
use Rattle.http_parts.specs.declared.body_fault.BodyFault.{BodyFault}
use Rattle.http_parts.specs.declared.body_fault.BodyFault.TheVariants.{Invalid, TooLong, Ended, ReadFault, NoMemory}

-- some bytes of the link were read, and this holds of them
abbrev pub Took : Option (List ℕ) → Option (List ℕ) → (List ℕ → Type 0) → Type 0
Took left_old left_new P = (taken : List ℕ) × Consumes left_old left_new taken × P taken

-- What a fault says of the bytes that were seen: that they are invalid, that they are over the
-- limit, or that they are unfinished. If the link ended, the fault has the count of bytes seen; the
-- link failed only if its count of faults rose.
abbrev pub Halts : BodyFault → (is_invalid is_over is_unfinished : Type 0) → ℕ → Option (List ℕ) → ℕ
    → ℕ → Type 0
Halts Invalid is_invalid is_over is_unfinished seen left reads_old reads_new = is_invalid
Halts TooLong is_invalid is_over is_unfinished seen left reads_old reads_new = is_over
Halts (Ended count) is_invalid is_over is_unfinished seen left reads_old reads_new =
    is_unfinished × IsAtEnd left × (count ≡ seen)
Halts ReadFault is_invalid is_over is_unfinished seen left reads_old reads_new =
    is_unfinished × Rose reads_old reads_new
Halts NoMemory is_invalid is_over is_unfinished seen left reads_old reads_new = ⊤

-- a count of bytes seen is below this number
abbrev pub IsCountBelow : ℕ → BodyFault → Type 0
IsCountBelow most Invalid = ⊤
IsCountBelow most TooLong = ⊤
IsCountBelow most (Ended count) = count < most
IsCountBelow most ReadFault = ⊤
IsCountBelow most NoMemory = ⊤

-- the same fault, with so many bytes seen before
abbrev pub counted_after : ℕ → BodyFault → BodyFault
counted_after count Invalid = Invalid
counted_after count TooLong = TooLong
counted_after count (Ended more) = Ended (count + more)
counted_after count ReadFault = ReadFault
counted_after count NoMemory = NoMemory

-- The bytes grew by some that were read of the link, at least one.
abbrev pub Grows : List ℕ → List ℕ → Option (List ℕ) → Option (List ℕ) → Type 0
Grows old new left_old left_new =
    Took left_old left_new (λ taken. (new ≡ old ++ taken) × (0 < length taken))

-- Nothing more was read after these bytes, because the link ended or failed; or an allocation
-- failed.
abbrev pub Breaks : BodyFault → List ℕ → Option (List ℕ) → Option (List ℕ) → ℕ → ℕ → Type 0
Breaks fault old left_old left_new reads_old reads_new =
    Took left_old left_new (λ taken.
    Halts fault ⊥ ⊥ (taken ≡ []) (length (old ++ taken)) left_new reads_old reads_new)

-- So many bytes of the link came to the place, and what is before them stayed.
abbrev pub Fills : List ℕ → List ℕ → ℕ → Option (List ℕ) → Option (List ℕ) → ℕ → Type 0
Fills old new at left_old left_new count =
    (at + count ≤ length new)
    × Took left_old left_new (λ taken.
    (take (at + count) new ≡ take at old ++ taken) × (length taken ≡ count)
    × (count ≡ 0 → IsAtEnd left_new))

-- So many bytes moved to the end of the body: of the unread ones, and of those that the link gave.
abbrev pub Moves : ℕ → List ℕ → List ℕ → List ℕ → List ℕ → List ℕ → Type 0
Moves size body_old body_new old new taken =
    (size ≤ length (old ++ taken))
    × (body_new ≡ body_old ++ take size (old ++ taken)) × (new ≡ drop size (old ++ taken))

-- So many bytes were passed: of the unread ones, and of those that the link gave.
abbrev pub Passes : ℕ → List ℕ → List ℕ → List ℕ → Type 0
Passes size old new taken =
    (size ≤ length (old ++ taken)) × (new ≡ drop size (old ++ taken))

-- why no part of a body was read, from why nothing more of the link was
abbrev pub body_fault_of : WireFault → BodyFault
body_fault_of LinkFault = ReadFault
body_fault_of End = NoMemory
body_fault_of WriteFault = NoMemory
body_fault_of BadHead = NoMemory
body_fault_of HeadTooLong = NoMemory
body_fault_of (BodyTooLong limit) = NoMemory
body_fault_of (CutOff count) = NoMemory
body_fault_of OutOfMemory = NoMemory

-- The line of a chunk was read after these bytes, and those are left.
abbrev pub HasLine : List ℕ → List ℕ → ChunkHead → List ℕ → Type 0
HasLine old new head taken =
    (chunk_line (old ++ taken) ≡ Chunk head.size new)
    × (head.bytes + length new ≡ length (old ++ taken)) × (head.bytes ≤ MAX_CHUNK_LINE_BYTES)

-- A chunk was read after these bytes, of so many bytes with its lines, and the body continues after
-- it whatever follows. It is not empty, and its lines are short.
abbrev pub HasChunk : ℕ → List ℕ → List ℕ → List ℕ → List ℕ → ℕ → List ℕ → Type 0
HasChunk limit body_old body_new old new count taken =
    ((after : List ℕ) → chunk_step limit body_old ((old ++ taken) ++ after)
    ≡ GoesOn body_new (new ++ after))
    × (count + length new ≡ length (old ++ taken))
    × (length body_old < length body_new) × (length body_new ≤ limit)
    × (count + length body_old ≤ (MAX_CHUNK_LINE_BYTES + 2) + length body_new)

-- The last chunk was read after these bytes, or one after which the body continues.
abbrev pub HasStep : ℕ → List ℕ → List ℕ → List ℕ → List ℕ → Option ℕ → List ℕ → Type 0
HasStep limit body_old body_new old new (Some count) taken =
    HasChunk limit body_old body_new old new count taken
HasStep limit body_old body_new old new None taken =
    chunk_step limit body_old (old ++ taken) ≡ Settled (Whole body_new new)
