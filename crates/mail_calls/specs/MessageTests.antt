-- The tests by which an email's message is found among the blobs of an account. Each is true if and
-- only if what it tests holds (`Rattle.plan_promises.specs.Messages`).
use Rattle.std.specs.Prelude.{ℕ, Bool, true, false, ◌&&◌, ◌==◌, List, [], ◌∷◌, length, Option, Some, None, bytes_eq, slice_get, ◌≡◌}
use Rattle.std.specs.Bool.{beq}
use Rattle.std.specs.Ordering.{int_eq}
use Rattle.jm_base.specs.declared.identifiers.UtcDate.{UtcDate}
use Rattle.mail_records.specs.declared.records.Email.{Email}
use Rattle.mail_records.specs.declared.records.Summary.{Summary}
use Rattle.blob_store.specs.Blobs.{blob_numbered}

-- the same texts, one by one
abbrev pub are_same_texts : List (List ℕ) → List (List ℕ) → Bool
are_same_texts [] [] = true
are_same_texts (x ∷ xs) (y ∷ ys) = bytes_eq x y && are_same_texts xs ys
are_same_texts _ _ = false

-- the same date, or none both
abbrev pub is_same_date : Option UtcDate → Option UtcDate → Bool
is_same_date None None = true
is_same_date (Some a) (Some b) = int_eq a.seconds b.seconds
is_same_date _ _ = false

-- the same summary
abbrev pub is_same_summary : Summary → Summary → Bool
is_same_summary a b =
    are_same_texts a.links b.links && (bytes_eq a.subject b.subject
    && (bytes_eq a.from b.from && (bytes_eq a.to b.to
    && (is_same_date a.sent b.sent && beq a.attachment b.attachment))))

-- the bytes are the email's message
abbrev pub is_message : (List ℕ → Summary) → Email → List ℕ → Bool
is_message summary e bytes =
    e.size == length bytes && is_same_summary e.summary (summary bytes)

-- there is a blob, and it is the email's message
abbrev pub is_message_in : (List ℕ → Summary) → Email → Option (List ℕ) → Bool
is_message_in summary e None = false
is_message_in summary e (Some bytes) = is_message summary e bytes

-- the blob that the email names is its message
abbrev pub has_message : (List ℕ → Summary) → List (List ℕ) → Email → Bool
has_message summary blobs e = is_message_in summary e (blob_numbered e.blob blobs)

-- an email of this blob among others
pub record IsSharing (emails : List Email) (blob : ℕ) (e : Email) : Type 0 where
  pub index : ℕ
  pub there : slice_get emails index ≡ Some e
  pub shares : e.blob ≡ blob
