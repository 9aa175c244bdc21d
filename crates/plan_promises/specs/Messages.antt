-- The message of an email: the bytes of a blob of its account (RFC 8621, 4.1.1: blobId and size).
-- What is kept of a message besides its bytes is a parameter.
use Rattle.std.specs.Prelude.{◌≡◌, ℕ, ◌-◌, ◌≤◌, List, [], length, slice_index_or}
use Rattle.std.specs.Option.{ForSome}
use Rattle.jm_base.specs.UtcDates.{IsUtcDate}
use Rattle.mail_records.specs.Commits.{TextsRise}
use Rattle.mail_records.specs.declared.limits.TheConstants.{MAX_LINKS_PER_EMAIL}
use Rattle.mail_records.specs.declared.records.Email.{Email}
use Rattle.mail_records.specs.declared.records.Summary.{Summary}

-- the bytes are the email's message: it has their size and their summary
pub record IsMessageOf (summary : List ℕ → Summary) (e : Email) (bytes : List ℕ) : Type 0 where
  pub size : e.size ≡ length bytes
  pub summary_is : e.summary ≡ summary bytes

-- an email names a blob, which is its message; blobs are numbered from 1
pub record HasMessage
    (summary : List ℕ → Summary) (blobs : List (List ℕ)) (e : Email) : Type 0 where
  pub from_one : 1 ≤ e.blob
  pub there : e.blob ≤ length blobs
  pub message : IsMessageOf summary e (slice_index_or blobs (e.blob - 1) [])

-- A summary can be kept: its links are at most `MAX_LINKS_PER_EMAIL` and rise, and its date is of
-- the years 0001 to 9999.
pub record IsFormedSummary (s : Summary) : Type 0 where
  pub few_links : length s.links ≤ MAX_LINKS_PER_EMAIL
  pub links_rise : TextsRise s.links
  pub sent : ForSome s.sent IsUtcDate
