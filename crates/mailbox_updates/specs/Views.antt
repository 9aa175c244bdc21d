-- What contracts see of the types of this crate.
use Rattle.std.specs.Prelude.{ℕ, ◌≡◌, true, None, ⊤}
use Rattle.mail_records.specs.Contents.{Content, email_number, mailbox_at, mailbox_number}
use Rattle.mail_records.specs.Tables.{IsTable, lookup}
use Rattle.mail_records.specs.declared.edits.Edit.{Edit}
use Rattle.mail_records.specs.declared.edits.Edit.TheVariants.{PutMailbox}
use Rattle.mail_counts.specs.Touched.{is_one_of}
use Rattle.set_parts.specs.Steps.{Progress as Steps}
use Rattle.mailbox_updates.specs.EmailsLeft.{emails_left}
use Rattle.mailbox_updates.specs.PresentMailboxes.{present_at}
use Rattle.mailbox_updates.specs.declared.current.Current.{Current}

-- ---- What the updates and destroys of a set keep in step with its content.

-- the edit puts a mailbox
abbrev pub PutsMailbox : Edit → Type 0
PutsMailbox (PutMailbox item was counts) = ⊤
PutsMailbox _ = ⊥

-- The mailboxes of a content are those that the set has put, and those that were there at the
-- beginning and that it has not destroyed; its emails are what destroys have left of those that
-- were there.
pub record Shows (p : Current) (c : Content) : Type 0 where
  pub table : IsTable mailbox_number c.mailboxes
  pub changed : IsTable mailbox_number p.changed.rows
  pub base : IsTable mailbox_number p.content.now.content.mailboxes
  pub base_emails : IsTable email_number p.content.now.content.emails
  pub found : (n : ℕ) → mailbox_at c n
      ≡ present_at p.changed.rows p.destroyed.items p.content.now.content.mailboxes n
  pub gone : (n : ℕ) → is_one_of p.destroyed.items n ≡ true
      → lookup mailbox_number n p.changed.rows ≡ None
  pub emails : c.emails ≡ emails_left p.destroyed.items p.content.now.content.emails

-- besides the content, the edits of updates and destroys and what is reported of them are those of
-- the progress
pub record Tracks (p : Current) (s : Steps) : Type 0 where
  pub shows : Shows p s.content
  pub edits : p.edits.items ≡ s.edits
  pub reported : p.reported ≡ s.reported
