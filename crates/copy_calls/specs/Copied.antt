-- What a copy keeps of its original (RFC 8620, 5.4; RFC 8621, 4.7).
use Rattle.std.specs.Prelude.{◌≡◌, ℕ, List, [], ◌++◌, Option, Some, None, unwrap_or, codes}
use Rattle.std.specs.List.{AllByRecursion, Contains}
use Rattle.jm_json.specs.Find.{as_object, find}
use Rattle.jm_json.specs.Tree.{Tree}
use Rattle.jm_json.specs.declared.invocation.Created.{Created}
use Rattle.mail_counts.specs.Tidy.{IsTidy}
use Rattle.mail_copies.specs.Plans.{place_in}
use Rattle.mail_records.specs.Histories.{History, blobs_of, content_of}
use Rattle.mail_records.specs.declared.records.Email.{Email}
use Rattle.mail_summary.specs.Summaries.{summary}
use Rattle.mail_view.specs.Emails.{HasBlob, blob_bytes}
use Rattle.plan_promises.specs.Messages.{HasMessage}
use Rattle.plan_promises.specs.Planned.{PutsEmail}
use Rattle.set_parts.specs.Arguments.{Create, creates_in}
use Rattle.set_parts.specs.Outcomes.{Plan, planned}
use Rattle.copy_calls.specs.Fetches.{fetched_in, original_named}

-- A copy by a create with these members has the size and the summary of its original, which are all
-- that an account keeps of a message besides its bytes. It has the keywords and the date of receipt
-- of its original, each unless the create sends another.
pub record Keeps (ms : List (List ℕ × Tree)) (original copy : Email) : Type 0 where
  pub keywords : find (codes "keywords") ms ≡ None → copy.keywords ≡ original.keywords
  pub received : find (codes "receivedAt") ms ≡ None → copy.received ≡ original.received
  pub size : copy.size ≡ original.size
  pub summary : copy.summary ≡ original.summary

-- The email is a copy, by one of these creates, of the one of these emails that the create names.
-- `theirs` are the blobs of the account of the originals, and `ours` those of the account of the
-- copies: the blob of the copy has the bytes of the original's, and so the same message.
pub record IsCopy
    (emails : List Email) (theirs ours : List (List ℕ)) (creates : List Create) (copy : Email)
    : Type 0 where
  pub create : Create
  pub sent : Contains creates create
  pub original : Email
  pub named : original_named emails create ≡ Some original
  pub kept : Keeps create.members original copy
  pub blob : HasBlob ours copy
  pub message : blob_bytes ours copy.blob ≡ blob_bytes theirs original.blob

-- the creates of a call with these arguments
abbrev pub creates_sent : Option (List (List ℕ × Tree)) → List Create
creates_sent ms = creates_in (unwrap_or ms [])

-- Each email that an Email/copy puts into the account of the copies, which has the history `to`, is
-- the copy of an original that one of its creates names in the account with the history `from`.
-- The emails there are tidy and each has its message, as in every valid account.
abbrev pub CopiesKeep : Type 0
CopiesKeep =
    (from to : History) (args : Tree) (made : List Created) (moment : ℕ) (p : Plan)
    → IsTidy (content_of from)
    → AllByRecursion (HasMessage summary (blobs_of from)) (content_of from).emails
    → place_in to args (fetched_in from args) made moment ≡ planned p
    → AllByRecursion
    (PutsEmail
    (IsCopy (content_of from).emails (blobs_of from) (blobs_of to ++ p.blobs)
    (creates_sent (as_object args))))
    p.edits
