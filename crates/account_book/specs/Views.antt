-- What contracts see of an account.
use Rattle.std.specs.Prelude.{ℕ}
use Rattle.mail_records.specs.Histories.{History}

-- an account: its history, and for how many more edits, edits that put an email, entries and blobs
-- memory is reserved
pub record Ledger : Type 0 where
  pub history : History
  pub spare : ℕ
  pub email_spare : ℕ
  pub entry_spare : ℕ
  pub blob_spare : ℕ
