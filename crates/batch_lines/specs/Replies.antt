-- What `batch` writes for the lines that it reads, over any port. A request is answered as
-- `method_batch` defines it, each in the state that the lines before it have left.
use Rattle.std.specs.Prelude.{◌≡◌, ◌⊎◌, ℕ, List, [], ◌∷◌, ◌++◌, Bool, false, cond, ◌==◌}
use Rattle.serde_json.specs.Written.{compact_text}
use Rattle.jm_json.specs.Tree.{Tree}
use Rattle.jm_json.specs.JsonValues.{data_of}
use Rattle.jm_json.specs.Json.{tree_of}
use Rattle.jm_json.specs.Call.{Call}
use Rattle.jm_json.specs.declared.invocation.Created.{Created}
use Rattle.jm_json.specs.declared.invocation.Replied.{Replied}
use Rattle.batch_lines.specs.declared.upload.Uploaded.{Uploaded}
use Rattle.batch_lines.specs.Lines.{line_feed}
use Rattle.batch_lines.specs.Uploads.{HasBegunUpload, IsUploadAnswer}
use Rattle.method_batch.specs.Outcome.{IsAnswer, HasBegunAnswer}
use Rattle.method_batch.specs.declared.outcome.Outcome.{Outcome}

-- a JSON value as a line of text, with its line feed
abbrev pub line_text : Tree → List ℕ
line_text t = compact_text (data_of t) ++ line_feed ∷ []

-- the byte `+`, with which the line of an upload begins
abbrev pub plus_sign : ℕ
plus_sign = 43

-- the line begins with `+`
abbrev pub begins_with_plus : List ℕ → Bool
begins_with_plus [] = false
begins_with_plus (x ∷ xs) = x == plus_sign

-- ---- the reply to one line, while the port goes from the state s to s'

-- A request: its Response, or the problem for which it is rejected, as a line of text.
abbrev pub IsRequestReply : {S : Type 0} → (S → Call → List Created → Replied → S → Type 0) → S
    → S → List ℕ → List ℕ → Type 0
IsRequestReply answers s s' line reply =
    (o : Outcome) × IsAnswer answers s s' line o × (reply ≡ line_text (tree_of o.tree))

-- An upload, of which this is the string after the `+`: the blob, or the problem for which there is
-- none, as a line of text.
abbrev pub IsUploadReply : {S : Type 0} → (S → List ℕ → Uploaded → S → Type 0) → S → S → List ℕ
    → List ℕ → Type 0
IsUploadReply uploads s s' string reply =
    (t : Tree) × IsUploadAnswer uploads s s' string t × (reply ≡ line_text t)

-- An empty line has no reply, one that begins with `+` is an upload, and any other
-- one is a request.
abbrev pub IsLineReply : {S : Type 0} → (S → Call → List Created → Replied → S → Type 0) → (S
    → List ℕ → Uploaded → S → Type 0) → S → S → List ℕ → List ℕ → Type 0
IsLineReply answers uploads s s' [] reply = (s' ≡ s) × (reply ≡ [])
IsLineReply answers uploads s s' (x ∷ xs) reply =
    cond (x == plus_sign) (IsUploadReply uploads s s' xs reply)
    (IsRequestReply answers s s' (x ∷ xs) reply)

-- A line whose answer ended out of memory: of a request the first calls were performed, and no
-- other; an upload was performed or not.
abbrev pub HasBegunLine : {S : Type 0} → (S → Call → List Created → Replied → S → Type 0) → (S
    → List ℕ → Uploaded → S → Type 0) → (S → Call → List Created → S → Type 0) → (S → List ℕ → S
    → Type 0) → S → S → List ℕ → Type 0
HasBegunLine answers uploads stops halts s s' [] = s' ≡ s
HasBegunLine answers uploads stops halts s s' (x ∷ xs) =
    cond (x == plus_sign) (HasBegunUpload uploads halts s s' xs)
    (HasBegunAnswer answers stops s s' (x ∷ xs))

-- ---- the replies to lines

-- The replies to all these lines, one after another. Each line is answered from the state that the
-- one before it has left, so the points of their calls continue from one another.
abbrev pub AreReplies : {S : Type 0} → (S → Call → List Created → Replied → S → Type 0) → (S
    → List ℕ → Uploaded → S → Type 0) → S → S → List (List ℕ) → List ℕ → Type 0
AreReplies answers uploads s s' [] written = (s' ≡ s) × (written ≡ [])
AreReplies {S} answers uploads s s' (l ∷ ls) written =
    (m : S) × (reply : List ℕ) × (more : List ℕ) × IsLineReply answers uploads s m l reply
    × AreReplies answers uploads m s' ls more × (written ≡ reply ++ more)

-- the first of these lines was begun; where there is none, the port is as it was
abbrev pub HasBegunFirst : {S : Type 0} → (S → Call → List Created → Replied → S → Type 0) → (S
    → List ℕ → Uploaded → S → Type 0) → (S → Call → List Created → S → Type 0) → (S → List ℕ → S
    → Type 0) → S → S → List (List ℕ) → Type 0
HasBegunFirst answers uploads stops halts s s' [] = s' ≡ s
HasBegunFirst answers uploads stops halts s s' (l ∷ ls) =
    HasBegunLine answers uploads stops halts s s' l

-- Of these lines the first ones were answered, of the next one perhaps the first calls were
-- performed, and no other. What was written is a prefix of the replies.
abbrev pub HasBegunReplies : {S : Type 0} → (S → Call → List Created → Replied → S → Type 0) → (S
    → List ℕ → Uploaded → S → Type 0) → (S → Call → List Created → S → Type 0) → (S → List ℕ → S
    → Type 0) → S → S → List (List ℕ) → List ℕ → Type 0
HasBegunReplies {S} answers uploads stops halts s s' lines written =
    (answered : List (List ℕ)) × (more : List (List ℕ)) × (unwritten : List ℕ) × (m : S)
    × (lines ≡ answered ++ more) × AreReplies answers uploads s m answered (written ++ unwritten)
    × HasBegunFirst answers uploads stops halts m s' more

-- A line whose answer ended out of memory, and what was kept of its reply: it was begun and nothing
-- kept, or it was answered and a prefix of the reply kept.
abbrev pub StopsInLine : {S : Type 0} → (S → Call → List Created → Replied → S → Type 0) → (S
    → List ℕ → Uploaded → S → Type 0) → (S → Call → List Created → S → Type 0) → (S → List ℕ → S
    → Type 0) → S → S → List ℕ → List ℕ → Type 0
StopsInLine answers uploads stops halts s s' line part =
    (HasBegunLine answers uploads stops halts s s' line × (part ≡ []))
    ⊎ ((rest : List ℕ) × IsLineReply answers uploads s s' line (part ++ rest))
