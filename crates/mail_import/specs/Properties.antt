-- What an EmailImport object sends (RFC 8621, 4.8): the blob that is its message, and what the
-- create of any email sends. Members of other names are ignored.
use Rattle.std.specs.Prelude.{ℕ, List, Option, Some, None, option_map, option_and_then, codes}
use Rattle.jm_json.specs.Find.{as_text, find}
use Rattle.jm_json.specs.Tree.{Tree}
use Rattle.jm_json.specs.declared.invocation.Created.{Created}
use Rattle.blob_ids.specs.BlobIds.{blob_id_in}
use Rattle.blob_ids.specs.declared.ids.BlobId.{BlobId}
use Rattle.mail_records.specs.Contents.{Content}
use Rattle.mail_view.specs.NamedBytes.{bytes_of_id}
use Rattle.email_creates.specs.Properties.{NamedBlob, sent_in}
use Rattle.email_creates.specs.declared.properties.Sent.{Sent}

-- the blob of this number, if no leaf of it is named
abbrev pub whole_blob : List (List ℕ) → ℕ → Option ℕ → Option NamedBlob
whole_blob blobs n None =
    option_map (λ b. record { number = n; bytes = b })
    (bytes_of_id blobs (record { blob = n; leaf = None }))
whole_blob blobs n (Some leaf) = None

-- the blob that an identifier names; the identifier of a part of a message names none
abbrev pub blob_named : List (List ℕ) → List ℕ → Option NamedBlob
blob_named blobs s =
    option_and_then (λ (id : BlobId). whole_blob blobs id.blob id.leaf) (blob_id_in s)

abbrev pub blob_in : List (List ℕ) → Option Tree → Option NamedBlob
blob_in blobs t = option_and_then (blob_named blobs) (option_and_then as_text t)

-- what an import sends; None of the blob means a value that names none
pub record Import : Type 0 where
  pub blob : Option NamedBlob
  pub sent : Sent

-- What an import sends, over the account's blobs, a content, and what the request has created up to
-- here.
abbrev pub email_import_in : List (List ℕ) → Content → List Created → List (List ℕ × Tree) → Import
email_import_in blobs c made ms = record {
  blob = blob_in blobs (find (codes "blobId") ms);
  sent = sent_in c made ms;
}
