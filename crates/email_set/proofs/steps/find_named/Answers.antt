use Rattle.std.proofs.Common.{◌∙◌}
use Rattle.set_parts.specs.Steps.{Progress}
use Rattle.email_set.specs.Views.{Follows}
use Rattle.email_set.proofs.Naming.{named_some, named_nothing}
use Rattle.email_set.proofs.steps.find_named.Goals as goal

pub returns-in-Some : goal.returns-in-Some
returns-in-Some c =
    λ (s : Progress) (f : Follows c.args.content.now.content c.args.planner.now s).
    c.find_email.ensures s f ∙ named_some c.args.id.now _ c.in-Some.number s.content.emails c.read_email_number.ensures c.in-Some.is

pub returns-in-None : goal.returns-in-None
returns-in-None c =
    λ (s : Progress) (f : Follows c.args.content.now.content c.args.planner.now s).
    named_nothing c.args.id.now _ s.content.emails c.read_email_number.ensures c.in-None.is
