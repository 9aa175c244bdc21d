use Rattle.std.proofs.Common.{Bor, ◌≡◌, ◌∙◌, None, Some, option_map, sym, ap}
use Rattle.jm_base.specs.declared.identifiers.Kind.TheVariants.{Email as OfEmail}
use Rattle.mail_counts.specs.Overlay.{last_edit}
use Rattle.mail_counts.proofs.Laid.{email_found, email_kept, found_is}
use Rattle.mail_records.specs.Contents.{email_at}
use Rattle.mail_records.specs.declared.edits.Edit.{Edit}
use Rattle.set_parts.specs.Steps.{Progress}
use Rattle.email_set.specs.Views.{Follows}
use Rattle.email_set.proofs.planner.find_email.Goals as goal

pub returns-in-Some : goal.returns-in-Some
returns-in-Some c =
    λ (s : Progress) (f : Follows c.args.content.now.content c.args.planner.now s).
    let base = c.args.content.now.content in
    let edits = c.args.planner.now.edits.items in
    let n = c.args.number in
    let last : last_edit OfEmail n edits ≡ Some c.in-Some.edit.now =
    sym (c.find_last_edit.ensures base s f) ∙ ap (option_map (λ (r : Bor Edit). r.now)) c.in-Some.is in
    c.find_put_email.ensures ∙ (email_found edits base n c.in-Some.edit.now last ∙ ap (λ d. email_at d n) (sym f.content))

pub returns-in-None : goal.returns-in-None
returns-in-None c =
    λ (s : Progress) (f : Follows c.args.content.now.content c.args.planner.now s).
    let base = c.args.content.now.content in
    let edits = c.args.planner.now.edits.items in
    let n = c.args.number in
    let last : last_edit OfEmail n edits ≡ None =
    sym (c.find_last_edit.ensures base s f) ∙ ap (option_map (λ (r : Bor Edit). r.now)) c.in-None.is in
    found_is c.email.result (email_at base n) c.email.ensures ∙ (email_kept edits base n last ∙ ap (λ d. email_at d n) (sym f.content))
