-- Blob/copy: blobs that are copied from one account to another (RFC 8620, 6.3).
use Rattle.std.specs.Prelude.{ℕ, ◌+◌, List, [], ◌∷◌, ◌++◌, drop, length, map, filter_map, nat_lt, Bool, true, false, Option, Some, None, unwrap_or, if◌then◌else◌, bytes_eq, codes}
use Rattle.jm_json.specs.Tree.{Tree, null, text, object, fields_of}
use Rattle.jm_json.specs.Find.{as_object}
use Rattle.jm_json.specs.Order.{put}
use Rattle.account_book.specs.declared.asks.Carried.{Carried}
use Rattle.blob_ids.specs.BlobIds.{blob_id_text}
use Rattle.blob_store.specs.Blobs.{has_room}
use Rattle.mail_records.specs.Histories.{History, blobs_of}
use Rattle.mail_view.specs.NamedBytes.{bytes_named}
use Rattle.mail_view.specs.Records.{first_mentions}
use Rattle.method_args.specs.Arguments.{Form, find_invalid, strings_in}
use Rattle.method_args.specs.declared.TheConstants.{MAX_OBJECTS_PER_CALL}
use Rattle.method_args.specs.declared.form.Presence.TheVariants.{Required}
use Rattle.method_args.specs.declared.form.Shape.TheVariants.{String, Strings}
use Rattle.set_parts.specs.Arguments.{account_in}
use Rattle.set_parts.specs.Outcomes.{Outcome, invalid, rejected_by, too_large}
use Rattle.method_args.specs.Wrapped.{object_or_null}
use Rattle.set_parts.specs.SetErrors.{error_tree}
use Rattle.set_parts.specs.declared.set_errors.SetError.TheVariants.{NotFound, OverQuota}
use Rattle.mail_copies.specs.Arguments.{from_account_in}
use Rattle.mail_copies.specs.Carried.{Delivery, deliveries}
use Rattle.mail_copies.specs.Copies.{first_delivery}

-- ---- arguments

-- the arguments in byte order, in which they are checked
abbrev pub blob_forms : List Form
blob_forms =
    record { name = codes "accountId"; presence = Required; shape = String }
    ∷ record { name = codes "blobIds"; presence = Required; shape = Strings }
    ∷ record { name = codes "fromAccountId"; presence = Required; shape = String }
    ∷ []

-- the ids of the blobs, repeated ones too
abbrev pub blob_ids_in : List (List ℕ × Tree) → List (List ℕ)
blob_ids_in ms = unwrap_or (strings_in (codes "blobIds") ms) []

abbrev pub too_many : ℕ → Option Outcome
too_many ids = if nat_lt MAX_OBJECTS_PER_CALL ids then Some too_large else None

-- Why a call is rejected as a whole, by either account: the first argument in byte order that does
-- not have its form, then too many ids, each counted as often as it is given.
abbrev pub blob_rejection_by : Option (List (List ℕ × Tree)) → Option Outcome
blob_rejection_by None = Some (invalid [])
blob_rejection_by (Some ms) =
    rejected_by (find_invalid blob_forms ms) (too_many (length (blob_ids_in ms)))

abbrev pub blob_rejection : Tree → Option Outcome
blob_rejection args = blob_rejection_by (as_object args)

-- ---- what is fetched

-- the item of a blob: an object without members; null if there is none
abbrev pub blob_item : Option (List ℕ) → Tree
blob_item None = null
blob_item (Some bytes) = object (fields_of [])

-- What is carried for these ids: an item for each, and the bytes of each that names some.
abbrev pub blobs_carried : List (List ℕ) → List (List ℕ) → Carried
blobs_carried blobs ids = record {
  emails = map (λ id. blob_item (bytes_named blobs id)) ids;
  blobs = filter_map (bytes_named blobs) ids;
}

abbrev pub blobs_carried_by : List (List ℕ) → Option (List (List ℕ × Tree)) → Carried
blobs_carried_by blobs None = record { emails = []; blobs = [] }
blobs_carried_by blobs (Some ms) = blobs_carried blobs (blob_ids_in ms)

-- what a Blob/copy with these arguments fetches, in an account with this history, at its end
abbrev pub blobs_fetched_in : History → Tree → Carried
blobs_fetched_in h args = blobs_carried_by (blobs_of h) (as_object args)

-- ---- what is copied

-- How far a Blob/copy has come: the blobs that it brought, and what is reported of each id.
pub record BlobCopying : Type 0 where
  pub brought : List (List ℕ)
  pub copied : List (List ℕ × Tree)
  pub not_copied : List (List ℕ × Tree)

abbrev pub no_blobs : BlobCopying
no_blobs = record { brought = []; copied = []; not_copied = [] }

-- the identifier of the blob that comes after these
abbrev pub next_blob_tree : List (List ℕ) → Tree
next_blob_tree blobs =
    text (blob_id_text (record { blob = length blobs + 1; leaf = None }))

-- after bytes for which there is room or not, over the blobs of the account
abbrev pub after_bytes : List (List ℕ) → BlobCopying → List ℕ → List ℕ → Bool → BlobCopying
after_bytes blobs s id bytes true = record s {
  brought = s.brought ++ bytes ∷ [];
  copied = put id (next_blob_tree (blobs ++ s.brought)) s.copied;
}
after_bytes blobs s id bytes false =
    record s { not_copied = put id (error_tree OverQuota) s.not_copied }

-- After the copy of what is delivered for an id: it becomes a blob of the account, unless there is
-- nothing or no room.
abbrev pub after_blob : List (List ℕ) → BlobCopying → List ℕ → Option Delivery → BlobCopying
after_blob blobs s id None = record s { not_copied = put id (error_tree NotFound) s.not_copied }
after_blob blobs s id (Some d) =
    after_bytes blobs s id d.bytes (has_room (length d.bytes) (blobs ++ s.brought))

-- after these ids, one after the other, for each of which this is delivered
abbrev pub after_blobs : List (List ℕ) → (List ℕ → Option Delivery) → BlobCopying
    → List (List ℕ) → BlobCopying
after_blobs blobs delivered s [] = s
after_blobs blobs delivered s (id ∷ ids) =
    after_blobs blobs delivered (after_blob blobs s id (delivered id)) ids

-- what is delivered for an id, which is what is delivered at its first place
abbrev pub delivered_for : List (List ℕ) → List (Option Delivery) → List ℕ → Option Delivery
delivered_for [] ds id = None
delivered_for (x ∷ xs) ds id =
    if bytes_eq x id then first_delivery ds else delivered_for xs (drop 1 ds) id

-- The blobs of a call: each id once, in the order of its first mention.
abbrev pub blobs_copied : List (List ℕ) → Carried → List (List ℕ) → BlobCopying
blobs_copied blobs carried ids =
    after_blobs blobs (delivered_for ids (deliveries carried.emails carried.blobs)) no_blobs
    (first_mentions ids)

-- ---- the response

-- the arguments of the response: both accounts, the new identifiers, and what was not copied
abbrev pub blob_reply_members : List (List ℕ × Tree) → BlobCopying → List (List ℕ × Tree)
blob_reply_members ms s =
    (codes "accountId", text (account_in ms))
    ∷ (codes "copied", object_or_null s.copied)
    ∷ (codes "fromAccountId", text (from_account_in ms))
    ∷ (codes "notCopied", object_or_null s.not_copied)
    ∷ []

-- The plan of a Blob/copy that is not rejected: the arguments of its response, and the blobs that
-- it brings. It has no edits.
pub record BlobPlan : Type 0 where
  pub reply : Tree
  pub blobs : List (List ℕ)

abbrev pub blob_plan : List (List ℕ × Tree) → BlobCopying → BlobPlan
blob_plan ms s =
    record { reply = object (fields_of (blob_reply_members ms s)); blobs = s.brought }

abbrev pub blob_plan_by : List (List ℕ) → Carried → Option (List (List ℕ × Tree)) → BlobPlan
blob_plan_by blobs carried None = record { reply = null; blobs = [] }
blob_plan_by blobs carried (Some ms) =
    blob_plan ms (blobs_copied blobs carried (blob_ids_in ms))

-- the plan of a Blob/copy with these arguments and what is carried, in the account to which blobs
-- are copied, which has this history
abbrev pub blob_plan_in : History → Tree → Carried → BlobPlan
blob_plan_in h args carried = blob_plan_by (blobs_of h) carried (as_object args)
