-- What is planned for an upload (RFC 8620, 6.1).
use Rattle.std.specs.Prelude.{ℕ, ◌+◌, Bool, true, false, List, [], ◌∷◌, length}
use Rattle.blob_store.specs.Blobs.{has_room}
use Rattle.mail_records.specs.Histories.{History, blobs_of}
use Rattle.account_book.specs.declared.plans.Out.TheVariants.{Uploaded, Full}
use Rattle.account_book.specs.declared.plans.Plan.{Plan}

-- there is no room
abbrev pub full : Plan
full = record { out = Full; blobs = []; edits = [] }

-- the bytes are the blob of this number
abbrev pub uploaded : ℕ → List ℕ → Plan
uploaded number bytes = record { out = Uploaded number; blobs = bytes ∷ []; edits = [] }

abbrev pub upload_if : Bool → ℕ → List ℕ → Plan
upload_if true number bytes = uploaded number bytes
upload_if false number bytes = full

-- An upload brings its bytes as a blob with the next number, if there is room for it.
abbrev pub upload_plan : History → List ℕ → Plan
upload_plan h bytes =
    upload_if (has_room (length bytes) (blobs_of h)) (length (blobs_of h) + 1) bytes
