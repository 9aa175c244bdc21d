-- The creates of a set, the imports or the copies of a call, one after the other (RFC 8620, 5.3 and
-- 5.4; RFC 8621, 4.8).
use Rattle.std.specs.Prelude.{ℕ, List, [], ◌∷◌, ◌++◌, Option, Some, None}
use Rattle.jm_json.specs.Tree.{Tree, object, fields_of}
use Rattle.jm_json.specs.Order.{put}
use Rattle.jm_json.specs.declared.invocation.Created.{Created}
use Rattle.mail_records.specs.Contents.{Content}
use Rattle.mail_records.specs.Edits.{after_edits}
use Rattle.mail_records.specs.declared.edits.Edit.{Edit}
use Rattle.set_parts.specs.Arguments.{Create}
use Rattle.set_parts.specs.SetErrors.{error_tree}
use Rattle.set_parts.specs.declared.creates.CreateStep.{CreateStep}
use Rattle.set_parts.specs.declared.creates.CreateStep.TheVariants.{Rejected, Done}
use Rattle.set_parts.specs.declared.creates.NewRecord.{NewRecord}

-- How far the creates of a call have come: the content, what the request has created up to here and
-- what this call has created of it, the edits that led to the content, the bytes of the blobs that
-- the call brings, in order, and what is reported of each create that is done.
pub record Creating : Type 0 where
  pub content : Content
  pub made : List Created
  pub fresh : List Created
  pub edits : List Edit
  pub blobs : List (List ℕ)
  pub created : List (List ℕ × Tree)
  pub not_created : List (List ℕ × Tree)

-- where the creates of a call begin
abbrev pub before_creates : Content → List Created → Creating
before_creates c made = record {
  content = c;
  made = made;
  fresh = [];
  edits = [];
  blobs = [];
  created = [];
  not_created = [];
}

-- the record that is created under this creation id
abbrev pub record_under : List ℕ → NewRecord → Created
record_under creation x = record { creation = creation; id = x.id }

-- the blob that a record brings, if it brings one
abbrev pub blobs_brought : Option (List ℕ) → List (List ℕ)
blobs_brought None = []
blobs_brought (Some bytes) = bytes ∷ []

-- the blob that a step brings, if it brings one
abbrev pub blobs_of : CreateStep → List (List ℕ)
blobs_of (Rejected error) = []
blobs_of (Done x) = blobs_brought x.blob

-- after a create under this creation id
abbrev pub after_create : List ℕ → Creating → CreateStep → Creating
after_create creation s (Rejected error) =
    record s { not_created = put creation (error_tree error) s.not_created }
after_create creation s (Done x) = record s {
  content = after_edits s.content x.edits;
  made = s.made ++ record_under creation x ∷ [];
  fresh = s.fresh ++ record_under creation x ∷ [];
  edits = s.edits ++ x.edits;
  blobs = s.blobs ++ blobs_brought x.blob;
  created = put creation (object (fields_of x.members)) s.created;
}

-- After creates, one after the other. `step` is what comes of a create after those before it.
abbrev pub after_creates : (Creating → Create → CreateStep) → Creating → List Create → Creating
after_creates step s [] = s
after_creates step s (x ∷ xs) = after_creates step (after_create x.creation s (step s x)) xs
