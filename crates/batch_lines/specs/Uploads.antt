-- Uploads: what follows the `+` of a line is base64, and its bytes are uploaded (RFC 8620, 6.1;
-- that a line uploads is our own).
use Rattle.std.specs.Prelude.{◌≡◌, ◌⊎◌, ℕ, List, [], ◌∷◌, length, nat_lt, Option, Some, None, cond, codes, pos}
use Rattle.base64.specs.GeneralPurpose.{decoded_of}
use Rattle.base64.specs.Engines.{standard}
use Rattle.jm_json.specs.Tree.{Tree, number, text, object, fields_of}
use Rattle.method_batch.specs.Outcome.{limit_tree, problem_tree}
use Rattle.method_batch.specs.declared.outcome.Problem.TheVariants.{NotRequest}
use Rattle.blob_ids.specs.BlobIds.{blob_text}
use Rattle.jm_base.specs.declared.limits.TheConstants.{MAX_UPLOAD_BYTES}
use Rattle.batch_lines.specs.declared.limits.TheConstants.{MAX_UPLOAD_CHARACTERS}
use Rattle.batch_lines.specs.declared.upload.Uploaded.{Uploaded}
use Rattle.batch_lines.specs.declared.upload.Uploaded.TheVariants.{Kept, Full, Failed}

-- The bytes whose base64 the string is, with padding, without white space, and with no bits left
-- over (RFC 4648, 4). None if the
-- string is the base64 of no bytes.
unfoldable pub base64_bytes : List ℕ → Option (List ℕ)
base64_bytes string = decoded_of standard string

-- ---- what is shown

-- the problem of an upload that could not be kept (RFC 7807)
abbrev pub failure_tree : Tree
failure_tree =
    object (fields_of ((codes "status", number (pos 500))
    ∷ (codes "type", text (codes "about:blank")) ∷ []))

-- An upload of so many bytes: the blob that holds them, or the problem for which none does (RFC
-- 8620, 6.1; RFC 7807).
abbrev pub upload_tree : ℕ → Uploaded → Tree
upload_tree size (Kept account blob) =
    object (fields_of (
    (codes "accountId", text account)
    ∷ (codes "blobId", text (blob_text blob))
    ∷ (codes "size", number (pos size))
    ∷ (codes "type", text (codes "application/octet-stream"))
    ∷ []
    ))
upload_tree size Full = limit_tree (codes "maxSizeBlobs")
upload_tree size Failed = failure_tree

-- ---- the answer, where the port goes from the state s to s' meanwhile

-- the port answers the bytes, and its answer is shown
abbrev pub IsUploaded : {S : Type 0} → (S → List ℕ → Uploaded → S → Type 0)
    → S → S → List ℕ → Tree → Type 0
IsUploaded uploads s s' bytes t =
    (u : Uploaded) × uploads s bytes u s' × (t ≡ upload_tree (length bytes) u)

-- the port is as it was, and this is shown
abbrev pub IsRejected : {S : Type 0} → S → S → Tree → Tree → Type 0
IsRejected s s' problem t = (s' ≡ s) × (t ≡ problem)

-- A string that is no base64 is no request. More bytes than an upload may have are not uploaded.
abbrev pub IsAnswerToBytes : {S : Type 0} → (S → List ℕ → Uploaded → S → Type 0)
    → S → S → Option (List ℕ) → Tree → Type 0
IsAnswerToBytes uploads s s' None t = IsRejected s s' (problem_tree NotRequest) t
IsAnswerToBytes uploads s s' (Some bytes) t =
    cond (nat_lt MAX_UPLOAD_BYTES (length bytes))
    (IsRejected s s' (limit_tree (codes "maxSizeUpload")) t)
    (IsUploaded uploads s s' bytes t)

-- The answer to the string that follows a `+`. A string of more characters than the base64 of an
-- upload has is not read.
abbrev pub IsUploadAnswer : {S : Type 0} → (S → List ℕ → Uploaded → S → Type 0)
    → S → S → List ℕ → Tree → Type 0
IsUploadAnswer uploads s s' string t =
    cond (nat_lt MAX_UPLOAD_CHARACTERS (length string))
    (IsRejected s s' (limit_tree (codes "maxSizeUpload")) t)
    (IsAnswerToBytes uploads s s' (base64_bytes string) t)

-- ---- an answer that ended out of memory: the port halted at the bytes, or was not asked for them,
-- or answered them

abbrev pub HasHalted : {S : Type 0} → (S → List ℕ → Uploaded → S → Type 0)
    → (S → List ℕ → S → Type 0) → S → S → List ℕ → Type 0
HasHalted uploads halts s s' bytes = halts s bytes s' ⊎ ((u : Uploaded) × uploads s bytes u s')

abbrev pub HasBegunBytes : {S : Type 0} → (S → List ℕ → Uploaded → S → Type 0)
    → (S → List ℕ → S → Type 0) → S → S → Option (List ℕ) → Type 0
HasBegunBytes uploads halts s s' None = s' ≡ s
HasBegunBytes uploads halts s s' (Some bytes) =
    cond (nat_lt MAX_UPLOAD_BYTES (length bytes)) (s' ≡ s) (HasHalted uploads halts s s' bytes)

abbrev pub HasBegunUpload : {S : Type 0} → (S → List ℕ → Uploaded → S → Type 0)
    → (S → List ℕ → S → Type 0) → S → S → List ℕ → Type 0
HasBegunUpload uploads halts s s' string =
    cond (nat_lt MAX_UPLOAD_CHARACTERS (length string)) (s' ≡ s)
    (HasBegunBytes uploads halts s s' (base64_bytes string))
