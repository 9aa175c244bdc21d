-- The accounts that the tests' rules call valid.
use Rattle.std.proofs.Common.{◌↔◌, ◌≤◌, Bool, IsTrue}
use Rattle.mail_records.specs.Histories.{History, IsFounded, IsSound, blobs_of, edits_of}
use Rattle.blob_store.specs.Blobs.{AreBlobsFew}
use Rattle.record_codec.specs.Sizes.{edit_bytes}
use Rattle.account_book.specs.declared.limits.TheConstants.{MAX_EDIT_BYTES}
use Rattle.tests_halls.specs.TestRules.{IsAdded}

pub added_from : (r : Bool) (h : History) → IsFounded h → IsSound h → AreBlobsFew (blobs_of h)
    → (IsTrue r ↔ (edit_bytes (edits_of h) ≤ MAX_EDIT_BYTES)) → IsTrue r ↔ IsAdded h
added_from r h founded sound few within = (
  λ yes. record { founded = founded; sound = sound; few = few; within = within.0 yes },
  λ added. within.1 added.within,
)
