-- The edits of an update or of a destroy are of emails.
use Rattle.std.proofs.Common.{Bool, true, false, List, [], ◌∷◌, ℕ, if◌then◌else◌, Option, Some, None, map}
use Rattle.jm_json.specs.declared.invocation.Created.{Created}
use Rattle.mail_records.specs.Contents.{Content, mailbox_number}
use Rattle.mail_records.specs.declared.edits.Edit.TheVariants.{PutEmail}
use Rattle.mail_records.specs.declared.records.Email.{Email}
use Rattle.set_parts.specs.Arguments.{Update}
use Rattle.set_parts.specs.Steps.{is_destroyed}
use Rattle.set_parts.specs.declared.steps.Step.{Step}
use Rattle.set_parts.specs.declared.steps.Step.TheVariants as step
use Rattle.email_set.specs.Emails.{destroy_of, filing_of, is_same_filing, step_to, update_of, with_filing}
use Rattle.email_set.specs.Patches.{refiled}
use Rattle.email_set.specs.Views.{IsEmailStep}
use Rattle.email_set.specs.declared.filing.Refiled.{Refiled}
use Rattle.email_set.specs.declared.filing.Refiled.TheVariants.{Rejected, Filed}

filed_step : (b : Bool) (e : Email) → IsEmailStep (if b then step.Done [] else step.Done (PutEmail e true ∷ []))
filed_step true e = tt
filed_step false e = (tt, tt)

refiled_step : (e : Email) (r : Refiled) → IsEmailStep (step_to e r)
refiled_step e (Rejected error) = tt
refiled_step e (Filed f) = filed_step (is_same_filing (filing_of e) f) (with_filing f e)

chosen_step : (b : Bool) (rejected other : Step) → IsEmailStep rejected → IsEmailStep other → IsEmailStep (if b then rejected else other)
chosen_step true rejected other is more = is
chosen_step false rejected other is more = more

pub update_step : (made : List Created) (destroys : List (List ℕ)) (d : Content) (x : Update) (o : Option Email) → IsEmailStep (update_of made destroys d x o)
update_step made destroys d x None = tt
update_step made destroys d x (Some e) = chosen_step (is_destroyed made destroys x.id) _ _ tt (refiled_step e (refiled (map mailbox_number d.mailboxes) made (filing_of e) x.patch))

pub destroy_step : (o : Option Email) → IsEmailStep (destroy_of o)
destroy_step None = tt
destroy_step (Some e) = (tt, tt)
