-- The bytes that a blob id names (RFC 8620, 6; RFC 8621, 4.1.4: blobId), wherever a method or a
-- download takes one.
use Rattle.std.specs.Prelude.{ℕ, List, Option, Some, None, option_and_then}
use Rattle.blob_ids.specs.BlobIds.{blob_id_in}
use Rattle.blob_ids.specs.declared.ids.BlobId.{BlobId}
use Rattle.blob_store.specs.Blobs.{blob_numbered}
use Rattle.mail_summary.specs.Leaves.{part_bytes_of}
use Rattle.mail_view.specs.declared.named_bytes.NamedBytes.{NamedBytes}
use Rattle.mail_view.specs.declared.named_bytes.NamedBytes.TheVariants.{Blob, Leaf}

-- the bytes of a blob, or the decoded body of the leaf with this number of its message
abbrev pub bytes_or_leaf : List ℕ → Option ℕ → Option (List ℕ)
bytes_or_leaf bytes None = Some bytes
bytes_or_leaf bytes (Some leaf) = part_bytes_of bytes leaf

abbrev pub bytes_of_id : List (List ℕ) → BlobId → Option (List ℕ)
bytes_of_id blobs id =
    option_and_then (λ bytes. bytes_or_leaf bytes id.leaf) (blob_numbered id.blob blobs)

-- The bytes that a string names among the blobs of an account: those of a blob, or those of a leaf
-- of the message that a blob holds. None if it names neither.
abbrev pub bytes_named : List (List ℕ) → List ℕ → Option (List ℕ)
bytes_named blobs id = option_and_then (bytes_of_id blobs) (blob_id_in id)

-- the bytes, as the code holds them
abbrev pub named_of : NamedBytes → List ℕ
named_of (Blob bytes) = bytes.now
named_of (Leaf bytes) = bytes
