-- What contracts see of the types of updates.
use Rattle.std.specs.Prelude.{◌≡◌, ℕ, [], ◌∷◌, length, true, false, is_some, ⊤}
use Rattle.mail_records.specs.Contents.{Content, mailbox_at}
use Rattle.mail_records.specs.declared.edits.Edit.TheVariants.{PutMailbox}
use Rattle.set_parts.specs.Steps.{Progress}
use Rattle.set_parts.specs.declared.steps.Step.{Step}
use Rattle.set_parts.specs.declared.steps.Step.TheVariants.{Rejected, Done}
use Rattle.mailbox_updates.specs.Views.{Tracks}
use Rattle.mailbox_updates.specs.declared.current.Current.{Current}
use Rattle.mailbox_updates.specs.declared.patches.Changed.{Changed}
use Rattle.mailbox_updates.specs.declared.patches.Changed.TheVariants.{Invalid, Valid}
use Rattle.mailbox_updates.specs.declared.updates.Decision.{Decision}
use Rattle.mailbox_updates.specs.declared.updates.Decision.TheVariants.{Reject, Leave, Put}

-- as many mailboxes as the content has
abbrev pub Counts : Current → Content → Type 0
Counts p c = p.count ≡ length c.mailboxes

-- a mailbox of this number, if it is one
abbrev pub IsOf : ℕ → Changed → Type 0
IsOf n (Invalid error) = ⊤
IsOf n (Valid m) = m.number ≡ n

-- what a decision does
abbrev pub step_of : Decision → Step
step_of (Reject error) = Rejected error
step_of Leave = Done []
step_of (Put m) = Done (PutMailbox m true false ∷ [])

-- a mailbox that is put was there
abbrev pub PutsPresent : Content → Decision → Type 0
PutsPresent c (Reject error) = ⊤
PutsPresent c Leave = ⊤
PutsPresent c (Put m) = is_some (mailbox_at c m.number) ≡ true

-- the decision on an update of a content does this
pub record Decides (c : Content) (d : Decision) (wanted : Step) : Type 0 where
  pub step : step_of d ≡ wanted
  pub there : PutsPresent c d

-- Updates have come this far: none of the mailboxes is destroyed.
pub record Updating (p : Current) (s : Progress) : Type 0 where
  pub tracks : Tracks p s
  pub count : Counts p s.content
  pub fresh : p.destroyed.items ≡ []
