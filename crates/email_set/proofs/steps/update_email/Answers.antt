use Rattle.std.proofs.Common.{Bor, ◌≡◌, ◌∙◌, List, ℕ, Some, option_map, sym, ap}
use Rattle.jm_json.specs.Json.{member_of}
use Rattle.jm_json.specs.declared.invocation.Created.{Created}
use Rattle.mail_records.specs.declared.records.Email.{Email}
use Rattle.set_parts.specs.Arguments.{update_in}
use Rattle.set_parts.specs.Steps.{Progress}
use Rattle.set_parts.specs.Views.{AreDestroyed, AreMade}
use Rattle.email_set.specs.Emails.{email_meant}
use Rattle.email_set.specs.Views.{Follows}
use Rattle.email_set.proofs.Results.{ok_map}
use Rattle.email_set.proofs.Stepping.{updated_found}
use Rattle.email_set.proofs.steps.update_email.Goals as goal

pub returns-in-Some : goal.returns-in-Some
returns-in-Some c =
    let base = c.args.setting.now.content.now.content in
    let x = update_in (member_of c.args.member.now) in
    ok_map c.update_found.result _ _
    (λ step is (made : List Created) (destroys : List (List ℕ)) (s : Progress) (m : AreMade c.args.setting.now.created made) (d : AreDestroyed c.args.setting.now.destroyed made destroys) (f : Follows base c.args.planner.now s).
    let found : Some c.in-Some.email.now ≡ email_meant made s.content x.id =
    ap (option_map (λ (r : Bor Email). r.now)) (sym c.in-Some.is) ∙ (c.find_meant.ensures made s m f ∙ ap (email_meant made s.content) c.as_str.ensures) in
    is made destroys m d ∙ updated_found made destroys base s.content x c.in-Some.email.now f.mailboxes found)
    c.update_found.ensures
