-- The thread rule in plain words (RFC 8621, section 3).
use Rattle.std.specs.Prelude.{◌≡◌, ℕ, ◌≤◌, List}
use Rattle.std.specs.List.{Contains}
use Rattle.mail_records.specs.declared.records.Email.{Email}
use Rattle.mail_records.specs.declared.records.Summary.{Summary}

-- A link of the new email is a link of the email, and the subjects are the same.
pub record AreRelated (summary : Summary) (email : Email) : Type 0 where
  pub link : List ℕ
  pub in_summary : Contains summary.links link
  pub in_email : Contains email.summary.links link
  pub subject : email.summary.subject ≡ summary.subject

-- The email is one of the emails to which the new one is related, and none of these has a lesser
-- number.
pub record Decides (emails : List Email) (summary : Summary) (email : Email) : Type 0 where
  pub among : Contains emails email
  pub related : AreRelated summary email
  pub least : (other : Email) → Contains emails other → AreRelated summary other
      → email.number ≤ other.number

-- The subjects are the same, and each has the other's links.
pub record HaveSameLinks (one other : Summary) : Type 0 where
  pub subject : one.subject ≡ other.subject
  pub to : (link : List ℕ) → Contains one.links link → Contains other.links link
  pub from : (link : List ℕ) → Contains other.links link → Contains one.links link
