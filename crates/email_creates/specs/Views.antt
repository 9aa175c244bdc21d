-- What contracts see of the types of this crate.
use Rattle.std.specs.Prelude.{◌≡◌, ℕ, ◌+◌, ◌<◌, ◌≤◌, length}
use Rattle.std.specs.Option.{option_or}
use Rattle.jm_base.specs.declared.identifiers.TheConstants.{NUMBER_LIMIT}
use Rattle.blob_store.specs.Blobs.{byte_count}
use Rattle.blob_store.specs.declared.limits.TheConstants.{MAX_BLOB_BYTES_PER_ACCOUNT}
use Rattle.mail_records.specs.Contents.{AreNumbered, Content}
use Rattle.mail_records.specs.declared.records.Summary.{Summary}
use Rattle.thread_assign.specs.Threads.{joined_thread}
use Rattle.set_parts.specs.CreatesViews.{KeepUp}
use Rattle.email_creates.specs.Emails.{Progress}
use Rattle.email_creates.specs.Properties.{NamedBlob}
use Rattle.email_creates.specs.declared.planner.Planner.{Planner}
use Rattle.email_creates.specs.declared.properties.NamedBlob.{NamedBlob as TheNamedBlob}

-- a blob, as the code holds it
abbrev pub blob_of : TheNamedBlob → NamedBlob
blob_of x = record { number = x.number; bytes = x.bytes.now }

-- ---- what a planner keeps in step with the progress of creates

-- Over a content, the planner has the next numbers, and what the creates have come to. The
-- mailboxes are those of the content. The emails are those of the content and of the edits, and a
-- new email joins a thread of the former first.
pub record Follows (c : Content) (p : Planner) (s : Progress) : Type 0 where
  pub mailboxes : s.creating.content.mailboxes ≡ c.mailboxes
  pub count : length s.creating.content.emails ≡ length c.emails + length p.creates.edits
  pub numbered : AreNumbered s.creating.content
  pub threads : (u : Summary) → joined_thread s.creating.content.emails u
      ≡ option_or (joined_thread c.emails u) (joined_thread p.new_emails.content.emails u)
  pub next_email : p.next_email ≡ s.creating.content.next_email
  pub next_thread : p.next_thread ≡ s.next_thread
  pub creates : KeepUp p.creates s.creating

-- There are numbers for so many emails and threads more, also among the emails of the call.
pub record HasNumbersFor (n : ℕ) (p : Planner) : Type 0 where
  pub email : p.next_email + n < NUMBER_LIMIT
  pub thread : p.next_thread + n < NUMBER_LIMIT
  pub new_emails : p.new_emails.content.next_email ≤ p.next_email
  pub numbered : AreNumbered p.new_emails.content

-- The bytes of the blobs that the call brings are counted, and are within the limit of an account.
pub record CountsBlobs (p : Planner) : Type 0 where
  pub bytes : p.blob_bytes ≡ byte_count p.creates.blobs
  pub few : p.blob_bytes ≤ MAX_BLOB_BYTES_PER_ACCOUNT
