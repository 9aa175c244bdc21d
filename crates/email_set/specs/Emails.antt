-- The update and the destroy of one email (RFC 8620, 5.3; RFC 8621, 4.6).
use Rattle.std.specs.Prelude.{ℕ, List, [], ◌∷◌, map, Bool, true, false, ◌&&◌, Option, Some, None, option_and_then, if◌then◌else◌, bytes_eq}
use Rattle.std.specs.List.{find as first_that}
use Rattle.jm_base.specs.declared.identifiers.Kind.TheVariants.{Email as OfEmail}
use Rattle.jm_json.specs.declared.invocation.Created.{Created}
use Rattle.mail_counts.specs.DerivedEdits.{same_numbers}
use Rattle.mail_records.specs.Contents.{Content, mailbox_number}
use Rattle.mail_records.specs.declared.edits.Edit.TheVariants.{PutEmail, DropEmail}
use Rattle.mail_records.specs.declared.records.Email.{Email}
use Rattle.set_parts.specs.Arguments.{Update}
use Rattle.set_parts.specs.CreationIds.{identifier, is_id}
use Rattle.set_parts.specs.Steps.{Progress, after_destroys, after_updates, is_destroyed}
use Rattle.set_parts.specs.declared.set_errors.SetError.TheVariants.{NotFound, WillDestroy}
use Rattle.set_parts.specs.declared.steps.Step.{Step}
use Rattle.set_parts.specs.declared.steps.Step.TheVariants as step
use Rattle.email_set.specs.Patches.{refiled}
use Rattle.email_set.specs.declared.filing.Filing.{Filing}
use Rattle.email_set.specs.declared.filing.Refiled.{Refiled}
use Rattle.email_set.specs.declared.filing.Refiled.TheVariants.{Rejected, Filed}

-- ---- the email that is meant

-- the email that an identifier names, if it names one
abbrev pub email_named : List Email → List ℕ → Option Email
email_named emails s = first_that (λ (e : Email). is_id OfEmail s e.number) emails

-- the email that a string means: by its id, or as `#k` by the id that was created last under k
abbrev pub email_meant : List Created → Content → List ℕ → Option Email
email_meant made c s = option_and_then (email_named c.emails) (identifier made s)

-- ---- an update

-- the mailboxes and keywords of an email
abbrev pub filing_of : Email → Filing
filing_of e = record { mailboxes = e.mailboxes; keywords = e.keywords }

-- an email with these mailboxes and keywords in place of its own
abbrev pub with_filing : Filing → Email → Email
with_filing f e = record e { mailboxes = f.mailboxes; keywords = f.keywords }

abbrev pub same_texts : List (List ℕ) → List (List ℕ) → Bool
same_texts [] [] = true
same_texts (x ∷ xs) (y ∷ ys) = bytes_eq x y && same_texts xs ys
same_texts _ _ = false

abbrev pub is_same_filing : Filing → Filing → Bool
is_same_filing f g = same_numbers f.mailboxes g.mailboxes && same_texts f.keywords g.keywords

-- An update that changes nothing makes no edit.
abbrev pub step_to : Email → Refiled → Step
step_to e (Rejected error) = step.Rejected error
step_to e (Filed f) =
    if is_same_filing (filing_of e) f
    then step.Done []
    else step.Done (PutEmail (with_filing f e) true ∷ [])

abbrev pub update_of : List Created → List (List ℕ) → Content → Update → Option Email → Step
update_of made destroys c x None = step.Rejected NotFound
update_of made destroys c x (Some e) =
    if is_destroyed made destroys x.id
    then step.Rejected WillDestroy
    else step_to e (refiled (map mailbox_number c.mailboxes) made (filing_of e) x.patch)

-- The update of an email, in a set that destroys these. An unknown id is `notFound`, and an email
-- that the set destroys too is not updated (`willDestroy`).
abbrev pub update_email : List Created → List (List ℕ) → Content → Update → Step
update_email made destroys c x = update_of made destroys c x (email_meant made c x.id)

-- ---- a destroy

abbrev pub destroy_of : Option Email → Step
destroy_of None = step.Rejected NotFound
destroy_of (Some e) = step.Done (DropEmail e.number e.thread ∷ [])

-- The destroy of an email. An id that was destroyed before is unknown.
abbrev pub destroy_email : List Created → Content → List ℕ → Step
destroy_email made c s = destroy_of (email_meant made c s)

-- ---- all of them

-- The updates of emails in byte order of their ids as they were sent, and then the destroys in the
-- order of their list, after what was done before them.
abbrev pub after_steps : Progress → List Created → List Update → List (List ℕ) → Progress
after_steps s made updates destroys =
    after_destroys (destroy_email made) made
    (after_updates (update_email made destroys) made s updates) destroys
