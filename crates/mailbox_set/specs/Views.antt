-- What contracts see of the types of this crate.
use Rattle.std.specs.Prelude.{ℕ, List, [], ◌∷◌, ◌++◌, Bool, ◌≡◌, true, is_some}
use Rattle.std.specs.List.{AllByRecursion, remove}
use Rattle.jm_json.specs.declared.invocation.Created.{Created}
use Rattle.set_parts.specs.Creates.{Creating}
use Rattle.mail_records.specs.Contents.{Content, mailbox_at, mailbox_number}
use Rattle.mail_records.specs.Edits.{after_edits}
use Rattle.mail_records.specs.Tables.{without}
use Rattle.mail_records.specs.declared.edits.Edit.TheVariants.{DropMailbox}
use Rattle.set_parts.specs.Steps.{Progress as Steps}
use Rattle.set_parts.specs.declared.steps.Step.TheVariants.{Done}
use Rattle.mailbox_set.specs.Destroys.{destroy_edits, destroy_mailbox}
use Rattle.mailbox_updates.specs.Views.{PutsMailbox}
use Rattle.mailbox_updates.specs.declared.current.Current.{Current}
use Rattle.mailbox_set.specs.declared.plan.Steps.{Steps as TheSteps}

-- ---- A destroy.

-- the string means the mailbox of this number, which is there and may be destroyed
pub record IsToDestroy
    (made : List Created) (remove : Bool) (c : Content) (id : List ℕ) (n : ℕ) : Type 0 where
  pub there : is_some (mailbox_at c n) ≡ true
  pub done : destroy_mailbox made remove c id ≡ Done (destroy_edits c n)

-- the mailbox of this number is dropped, and nothing else is done
pub record Drops (p : Current) (n : ℕ) (q : Current) : Type 0 where
  pub content : q.content.now ≡ p.content.now
  pub changed : q.changed.rows ≡ without mailbox_number n p.changed.rows
  pub destroyed : q.destroyed.items ≡ p.destroyed.items ++ n ∷ []
  pub edits : q.edits.items ≡ p.edits.items ++ DropMailbox n ∷ []
  pub reported : q.reported ≡ p.reported

-- ---- Steps.

-- The creates of a set led from a content to a progress, of a request that had created this before:
-- their edits put mailboxes.
pub record IsCreated (c : Content) (before : List Created) (p : Creating) : Type 0 where
  pub made : p.made ≡ before ++ p.fresh
  pub puts : AllByRecursion PutsMailbox p.edits
  pub content : p.content ≡ after_edits c p.edits

-- the steps are those that led to a progress
pub record IsStepsOf (x : TheSteps) (s : Steps) : Type 0 where
  pub reported : x.reported ≡ s.reported
  pub edits : x.edits ≡ s.edits
