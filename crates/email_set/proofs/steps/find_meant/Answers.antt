use Rattle.std.proofs.Common.{Bor, ◌∙◌, List, ℕ, option_and_then, option_map, sym, ap}
use Rattle.jm_json.specs.declared.invocation.Created.{Created}
use Rattle.set_parts.specs.Steps.{Progress}
use Rattle.set_parts.specs.Views.{AreMade}
use Rattle.email_set.specs.Emails.{email_named}
use Rattle.email_set.specs.Views.{Follows}
use Rattle.email_set.proofs.steps.find_meant.Goals as goal

pub returns-in-Some : goal.returns-in-Some
returns-in-Some c =
    λ (made : List Created) (s : Progress) (m : AreMade c.args.setting.now.created made) (f : Follows c.args.setting.now.content.now.content c.args.planner.now s).
    c.find_named.ensures s f
    ∙ ap (option_and_then (email_named s.content.emails))
    (ap (option_map (λ (t : Bor (List ℕ)). t.now)) (sym c.in-Some.is) ∙ c.find_identifier.ensures made m.texts)

pub returns-in-None : goal.returns-in-None
returns-in-None c =
    λ (made : List Created) (s : Progress) (m : AreMade c.args.setting.now.created made) (f : Follows c.args.setting.now.content.now.content c.args.planner.now s).
    ap (option_and_then (email_named s.content.emails))
    (ap (option_map (λ (t : Bor (List ℕ)). t.now)) (sym c.in-None.is) ∙ c.find_identifier.ensures made m.texts)
