use Rattle.std.proofs.Common.{Some, None, cond, option_map, sym, ap, ◌∙◌, subst}
use Rattle.set_parts.specs.CreationIds.{identifier}
use Rattle.set_parts.specs.Creates.{Creating}
use Rattle.mailbox_creates.specs.Views.{Follows}
use Rattle.set_parts.specs.Views.{MeansIfAny}
use Rattle.mailbox_creates.proofs.Naming.{named_some, named_nothing}
use Rattle.mailbox_creates.proofs.checks.find_parent.Goals as goal

pub returns-then-is_there : goal.returns-then-is_there
returns-then-is_there c =
    λ (s : Creating) (f : Follows c.args.planner.now s).
    let means : MeansIfAny (identifier s.made c.args.text.now) (Some c.in-Some.number) = subst (MeansIfAny (identifier s.made c.args.text.now)) c.in-Some.is (c.find_number.ensures s f) in
    sym (ap (option_map Some) (named_some s.content (identifier s.made c.args.text.now) c.in-Some.number means
    ∙ ap (λ b. cond b (Some c.in-Some.number) None) (sym (c.is_there.ensures s f) ∙ c.if-is_there.true)))

pub returns-else-is_there : goal.returns-else-is_there
returns-else-is_there c =
    λ (s : Creating) (f : Follows c.args.planner.now s).
    let means : MeansIfAny (identifier s.made c.args.text.now) (Some c.in-Some.number) = subst (MeansIfAny (identifier s.made c.args.text.now)) c.in-Some.is (c.find_number.ensures s f) in
    sym (ap (option_map Some) (named_some s.content (identifier s.made c.args.text.now) c.in-Some.number means
    ∙ ap (λ b. cond b (Some c.in-Some.number) None) (sym (c.is_there.ensures s f) ∙ c.if-is_there.false)))

pub returns-in-None : goal.returns-in-None
returns-in-None c =
    λ (s : Creating) (f : Follows c.args.planner.now s).
    let means : MeansIfAny (identifier s.made c.args.text.now) None = subst (MeansIfAny (identifier s.made c.args.text.now)) c.in-None.is (c.find_number.ensures s f) in
    sym (ap (option_map Some) (named_nothing s.content (identifier s.made c.args.text.now) means))
