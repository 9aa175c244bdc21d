-- The JSON view of an email (RFC 8621, 4.1), over the blobs of its account.
use Rattle.std.specs.Prelude.{ℕ, ◌≤◌, List, [], length, Option, Some, unwrap_or}
use Rattle.jm_json.specs.Tree.{Tree}
use Rattle.jm_base.specs.declared.identifiers.Kind.TheVariants.{Email as OfEmail}
use Rattle.blob_ids.specs.BlobIds.{blob_text}
use Rattle.blob_store.specs.Blobs.{blob_numbered}
use Rattle.mail_records.specs.Contents.{email_number}
use Rattle.mail_records.specs.declared.records.Email.{Email}
use Rattle.get_args.specs.declared.wanted.Wanted.{Wanted}
use Rattle.mail_view.specs.Records.{record_named}
use Rattle.mail_view.specs.View.{view_tree}

-- the email that an id names
abbrev pub email_named : List Email → List ℕ → Option Email
email_named emails id = record_named OfEmail email_number emails id

-- the bytes of a blob; an unknown number means an empty message
abbrev pub blob_bytes : List (List ℕ) → ℕ → List ℕ
blob_bytes blobs n = unwrap_or (blob_numbered n blobs) []

-- the email's message is one of these blobs, which are numbered from 1
pub record HasBlob (blobs : List (List ℕ)) (e : Email) : Type 0 where
  pub from_one : 1 ≤ e.blob
  pub there : e.blob ≤ length blobs

-- the view of an email: that of its message, which is a blob, with what its record says
abbrev pub email_view : List (List ℕ) → Wanted → Email → Tree
email_view blobs wanted e = view_tree (blob_bytes blobs e.blob) (blob_text e.blob) (Some e) wanted
