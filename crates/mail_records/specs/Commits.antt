-- Which commits can be written: what a list sorted on the way out has to keep, so that reading
-- gives it back.
use Rattle.std.specs.Prelude.{ℕ, List, ⊤}
use Rattle.std.specs.List.{AllByRecursion}
use Rattle.std.specs.List.Sorted.{IsStrictlySortedBy}
use Rattle.std.specs.Ordering.{nat_cmp}
use Rattle.std.specs.Cmp.Lexicographic.{slice_cmp}
use Rattle.std.specs.Option.{ForSome}
use Rattle.jm_base.specs.UtcDates.{IsUtcDate}
use Rattle.mail_records.specs.declared.records.Email.{Email}
use Rattle.mail_records.specs.declared.edits.Edit.{Edit}
use Rattle.mail_records.specs.declared.edits.Edit.TheVariants.{PutEmail}
use Rattle.mail_records.specs.declared.edits.Commit.{Commit}

-- numbers that rise strictly
abbrev pub NumbersRise : List ℕ → Type 0
NumbersRise numbers = IsStrictlySortedBy nat_cmp numbers

-- texts that rise strictly in byte order
abbrev pub TextsRise : List (List ℕ) → Type 0
TextsRise texts = IsStrictlySortedBy (slice_cmp nat_cmp) texts

-- an email's mailboxes, keywords and links rise strictly, and its dates are timestamps of the
-- years 0001 to 9999
pub record IsFormedEmail (e : Email) : Type 0 where
  pub mailboxes : NumbersRise e.mailboxes
  pub keywords : TextsRise e.keywords
  pub links : TextsRise e.summary.links
  pub received : IsUtcDate e.received
  pub sent : ForSome e.summary.sent IsUtcDate

-- an email that is put is formed
abbrev pub IsFormedEdit : Edit → Type 0
IsFormedEdit (PutEmail item was) = IsFormedEmail item
IsFormedEdit _ = ⊤

-- each email that a commit puts is formed
abbrev pub IsFormed : Commit → Type 0
IsFormed c = AllByRecursion IsFormedEdit c.edits
