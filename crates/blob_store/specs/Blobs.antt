-- The blobs of an account: their numbers and their limits. A blob is the bytes that a client
-- uploaded or that an email was made of (RFC 8620, section 6).
use Rattle.std.specs.Prelude.{ℕ, zero, suc, ◌+◌, ◌≤◌, nat_lt, nat_le, Bool, ◌&&◌, List, length, map, sum, Option, None, slice_get}
use Rattle.blob_store.specs.declared.limits.TheConstants.{MAX_BLOB_BYTES_PER_ACCOUNT, MAX_BLOBS_PER_ACCOUNT}

-- the bytes of all blobs together
abbrev pub byte_count : List (List ℕ) → ℕ
byte_count blobs = sum (map length blobs)

-- the blobs are within the limits of an account
pub record AreBlobsFew (blobs : List (List ℕ)) : Type 0 where
  pub count : length blobs ≤ MAX_BLOBS_PER_ACCOUNT
  pub bytes : byte_count blobs ≤ MAX_BLOB_BYTES_PER_ACCOUNT

-- one more blob of this many bytes is within the limits of an account
pub record HasRoomFor (size : ℕ) (blobs : List (List ℕ)) : Type 0 where
  pub count : length blobs + 1 ≤ MAX_BLOBS_PER_ACCOUNT
  pub bytes : byte_count blobs + size ≤ MAX_BLOB_BYTES_PER_ACCOUNT

-- whether one more blob of this many bytes is within the limits of an account
abbrev pub has_room : ℕ → List (List ℕ) → Bool
has_room size blobs =
    nat_lt (length blobs) MAX_BLOBS_PER_ACCOUNT
    && nat_le (byte_count blobs + size) MAX_BLOB_BYTES_PER_ACCOUNT

-- The blob with this number. The oldest blob has number 1, and no blob has number 0.
abbrev pub blob_numbered : ℕ → List (List ℕ) → Option (List ℕ)
blob_numbered zero blobs = None
blob_numbered (suc n) blobs = slice_get blobs n
