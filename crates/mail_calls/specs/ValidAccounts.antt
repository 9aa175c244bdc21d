-- When an account is valid: its history is founded and sound, its records are tidy, its emails are
-- those of its blobs, and it is within the limits. What is kept of a message besides its bytes is a
-- parameter.
use Rattle.std.specs.Prelude.{ℕ, ◌+◌, ◌≤◌, List}
use Rattle.std.specs.List.{AllByRecursion}
use Rattle.mail_records.specs.Contents.{NextAtMost}
use Rattle.mail_records.specs.Histories.{History, IsFounded, IsSound, edits_of, content_of, blobs_of, end_of}
use Rattle.mail_records.specs.declared.records.Summary.{Summary}
use Rattle.mail_counts.specs.Tidy.{IsTidy}
use Rattle.record_codec.specs.Sizes.{edit_bytes}
use Rattle.blob_store.specs.Blobs.{AreBlobsFew}
use Rattle.account_book.specs.declared.limits.TheConstants.{MAX_EDIT_BYTES}
use Rattle.plan_promises.specs.Messages.{HasMessage}

-- an account with this history is valid
pub record IsWhole (summary : List ℕ → Summary) (h : History) : Type 0 where
  pub founded : IsFounded h
  pub sound : IsSound h
  pub tidy : IsTidy (content_of h)
  pub messages : AllByRecursion (HasMessage summary (blobs_of h)) (content_of h).emails
  pub blobs : AreBlobsFew (blobs_of h)
  pub limit : edit_bytes (edits_of h) ≤ MAX_EDIT_BYTES
  pub next : NextAtMost (end_of h + 1) (content_of h)
