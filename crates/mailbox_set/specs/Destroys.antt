-- The destroy of one mailbox (RFC 8620, 5.3; RFC 8621, 2.5).
use Rattle.std.specs.Prelude.{ℕ, List, [], ◌∷◌, ◌++◌, map, Bool, true, not, ◌&&◌, Option, Some, None, if◌then◌else◌}
use Rattle.std.specs.List.{list_any}
use Rattle.jm_json.specs.declared.invocation.Created.{Created}
use Rattle.mail_counts.specs.Counts.{emails_in, is_in}
use Rattle.mail_counts.specs.Tidy.{same_parent}
use Rattle.mail_records.specs.Contents.{Content}
use Rattle.mail_records.specs.declared.edits.Edit.{Edit}
use Rattle.mail_records.specs.declared.edits.Edit.TheVariants.{DropMailbox, DropEmail, PutEmail}
use Rattle.mail_records.specs.declared.records.Email.{Email}
use Rattle.mail_records.specs.declared.records.Mailbox.{Mailbox}
use Rattle.set_parts.specs.declared.set_errors.SetError.TheVariants.{MailboxHasChild, MailboxHasEmail, NotFound}
use Rattle.set_parts.specs.declared.steps.Step.{Step}
use Rattle.set_parts.specs.declared.steps.Step.TheVariants.{Rejected, Done}
use Rattle.mailbox_creates.specs.Properties.{mailbox_meant}
use Rattle.mailbox_updates.specs.EmailsLeft.{mailboxes_but, mailboxes_left}

-- some mailbox is in this one
abbrev pub has_child : Content → ℕ → Bool
has_child c n = list_any (λ (m : Mailbox). same_parent m.parent (Some n)) c.mailboxes

-- some email is in the mailbox
abbrev pub has_email : Content → ℕ → Bool
has_email c n = list_any (is_in n) c.emails

-- An email that loses a mailbox is put without it, or dropped if it is in no other.
abbrev pub removal_of : Email → List ℕ → Edit
removal_of e [] = DropEmail e.number e.thread
removal_of e (m ∷ ms) = PutEmail (record e { mailboxes = m ∷ ms }) true

abbrev pub removal : ℕ → Email → Edit
removal n e = removal_of e (mailboxes_but n e.mailboxes)

-- the edits of a destroy: those of its emails by number, then the drop of the mailbox
abbrev pub destroy_edits : Content → ℕ → List Edit
destroy_edits c n = map (removal n) (emails_in n c.emails) ++ DropMailbox n ∷ []

-- a mailbox that is there is destroyed if it has no child, and no email unless the emails are to be
-- removed
abbrev pub destroy_there : Bool → Content → ℕ → Step
destroy_there remove c n =
    if has_child c n then Rejected MailboxHasChild
    else (if has_email c n && not remove then Rejected MailboxHasEmail
    else Done (destroy_edits c n))

abbrev pub destroy_of : Bool → Content → Option Mailbox → Step
destroy_of remove c None = Rejected NotFound
destroy_of remove c (Some m) = destroy_there remove c m.number

-- The destroy of a mailbox, by a set that removes its emails or not (onDestroyRemoveEmails).
abbrev pub destroy_mailbox : List Created → Bool → Content → List ℕ → Step
destroy_mailbox made remove c s = destroy_of remove c (mailbox_meant made c s)

-- the edit by which an email that was there loses a mailbox, after those that are destroyed
abbrev pub removal_at : List ℕ → ℕ → Option Email → List Edit
removal_at gone n None = []
removal_at gone n (Some e) =
    removal_of e (mailboxes_but n (mailboxes_left gone e.mailboxes)) ∷ []
