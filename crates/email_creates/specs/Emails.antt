-- The create of an email from a message: the email, and what is reported of it (RFC 8620, 5.3; RFC
-- 8621, 4.7 and 4.8).
use Rattle.std.specs.Prelude.{ℕ, pos, ◌+◌, List, [], ◌∷◌, ◌++◌, length, false, Option, Some, None, is_some, unwrap_or, if◌then◌else◌, codes}
use Rattle.jm_base.specs.Ids.{id_text}
use Rattle.jm_base.specs.declared.identifiers.UtcDate.{UtcDate}
use Rattle.jm_base.specs.declared.identifiers.Kind.TheVariants.{Email as OfEmail, Thread as OfThread}
use Rattle.jm_json.specs.Tree.{Tree, number, text}
use Rattle.blob_ids.specs.BlobIds.{blob_id_text}
use Rattle.mail_records.specs.declared.records.Email.{Email}
use Rattle.mail_records.specs.declared.records.Summary.{Summary}
use Rattle.mail_records.specs.declared.edits.Edit.TheVariants.{PutEmail}
use Rattle.mail_summary.specs.Received.{received}
use Rattle.mail_summary.specs.Summaries.{summary}
use Rattle.thread_assign.specs.Threads.{joined_thread}
use Rattle.set_parts.specs.Creates.{Creating, after_create}
use Rattle.set_parts.specs.declared.creates.CreateStep.TheVariants.{Rejected, Done}
use Rattle.set_parts.specs.declared.creates.NewRecord.{NewRecord}
use Rattle.set_parts.specs.declared.set_errors.SetError.{SetError}
use Rattle.email_creates.specs.Properties.{NamedBlob, date_of}
use Rattle.email_creates.specs.declared.properties.Sent.{Sent}

-- ---- the email

-- When the email was received: the date that is sent, else that of the newest Received field of the
-- message, which is its first, else the timestamp of the call in Unix seconds (RFC 8621, 4.8:
-- receivedAt).
abbrev pub received_at : ℕ → Option UtcDate → Option UtcDate → UtcDate
received_at moment field (Some date) = date
received_at moment field None = unwrap_or field (date_of (pos moment))

-- the blob that a message becomes, after these blobs
abbrev pub next_blob : List (List ℕ) → List ℕ → NamedBlob
next_blob blobs bytes = record { number = length blobs + 1; bytes = bytes }

-- How far the creates of a call have come: as any creates, and the next number of a thread. The
-- edits of threads follow from those of emails.
pub record Progress : Type 0 where
  pub creating : Creating
  pub next_thread : ℕ

-- The thread of a new email with this summary: the one that it joins, also one that an email of the
-- same call began, else the next one (RFC 8621, 3).
abbrev pub thread_for : Progress → Summary → ℕ
thread_for s summary = unwrap_or (joined_thread s.creating.content.emails summary) s.next_thread

-- the next number of a thread, after a new email that joins a thread or begins one
abbrev pub next_after : Option ℕ → ℕ → ℕ
next_after joined next = if is_some joined then next else next + 1

-- the email of a message with these properties
abbrev pub email_of : Progress → ℕ → Sent → NamedBlob → Email
email_of s moment a message = record {
  number = s.creating.content.next_email;
  thread = thread_for s (summary message.bytes);
  blob = message.number;
  mailboxes = unwrap_or a.mailboxes [];
  keywords = unwrap_or a.keywords [];
  size = length message.bytes;
  received = received_at moment (received message.bytes) (unwrap_or a.received None);
  summary = summary message.bytes;
}

-- ---- what is reported

abbrev pub email_id : ℕ → List ℕ
email_id n = id_text (record { kind = OfEmail; number = n })

abbrev pub thread_id : ℕ → List ℕ
thread_id n = id_text (record { kind = OfThread; number = n })

-- what is reported of a new email (RFC 8621, 4.8: created)
abbrev pub created_members : Email → List (List ℕ × Tree)
created_members e =
    (codes "blobId", text (blob_id_text (record { blob = e.blob; leaf = None })))
    ∷ (codes "id", text (email_id e.number))
    ∷ (codes "size", number (pos e.size))
    ∷ (codes "threadId", text (thread_id e.thread))
    ∷ []

-- a new email as what its create makes, which may bring its message, as a blob
abbrev pub new_record : Email → Option (List ℕ) → NewRecord
new_record e brought = record {
  id = email_id e.number;
  members = created_members e;
  edits = PutEmail e false ∷ [];
  blob = brought;
}

-- ---- a create after those before it

-- after a create that made an email, and brought a blob or none
abbrev pub after_made : Progress → List ℕ → Email → Option (List ℕ) → Progress
after_made s creation e brought = record {
  creating = after_create creation s.creating (Done (new_record e brought));
  next_thread = next_after (joined_thread s.creating.content.emails e.summary) s.next_thread;
}

-- after a create that is rejected
abbrev pub after_rejected : Progress → List ℕ → SetError → Progress
after_rejected s creation error =
    record s { creating = after_create creation s.creating (Rejected error) }

-- after a create that is rejected, or else makes this email
abbrev pub after_check : Progress → List ℕ → Email → Option (List ℕ) → Option SetError → Progress
after_check s creation e brought None = after_made s creation e brought
after_check s creation e brought (Some error) = after_rejected s creation error

-- After a create that made the email of a message, which became a blob after those of the account,
-- which are these, and those that were brought, at this timestamp in Unix seconds.
abbrev pub after_delivered : List (List ℕ) → ℕ → Progress → List ℕ → Sent → List ℕ → Progress
after_delivered blobs moment s creation a bytes =
    after_made s creation (email_of s moment a (next_blob (blobs ++ s.creating.blobs) bytes))
    (Some bytes)
