-- What contracts see of the types of this crate.
use Rattle.std.specs.Prelude.{◌≡◌, ◌≤◌}
use Rattle.jm_json.specs.Json.{tree_of}
use Rattle.blob_store.specs.Blobs.{byte_count}
use Rattle.blob_store.specs.declared.limits.TheConstants.{MAX_BLOB_BYTES_PER_ACCOUNT}
use Rattle.copy_calls.specs.BlobCopies.{BlobCopying, BlobPlan}
use Rattle.copy_calls.specs.declared.blob_place.BlobPlan.{BlobPlan as TheBlobPlan}
use Rattle.copy_calls.specs.declared.blob_place.BlobPlanner.{BlobPlanner}

-- the plan of a Blob/copy, as the code holds it
abbrev pub blob_plan_of : TheBlobPlan → BlobPlan
blob_plan_of p = record { reply = tree_of p.reply; blobs = p.blobs }

-- the planner has what was brought, and what is to be answered
pub record FollowsBlobs (p : BlobPlanner) (s : BlobCopying) : Type 0 where
  pub blobs : p.blobs.items ≡ s.brought
  pub copied : p.copied ≡ s.copied
  pub not_copied : p.not_copied ≡ s.not_copied

-- the bytes of the blobs that were brought are counted
pub record AreCounted (p : BlobPlanner) : Type 0 where
  pub bytes : p.blob_bytes ≡ byte_count p.blobs.items
  pub few : p.blob_bytes ≤ MAX_BLOB_BYTES_PER_ACCOUNT
