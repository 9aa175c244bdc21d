use Rattle.std.proofs.Common.{◌∙◌, List, ℕ, map, sym, ap, subst}
use Rattle.jm_base.specs.declared.identifiers.Kind.TheVariants.{Email as OfEmail}
use Rattle.jm_json.specs.declared.invocation.Created.{Created}
use Rattle.mail_counts.specs.Plans.{Ground}
use Rattle.set_parts.specs.Arguments.{Create, creates_in}
use Rattle.set_parts.specs.Creates.{Creating, after_creates, before_creates}
use Rattle.set_parts.specs.CreatesViews.{KeepUp}
use Rattle.set_parts.specs.Outcomes.{ground_of}
use Rattle.set_parts.specs.Views.{create_of}
use Rattle.set_parts.specs.Plans.{plan_after}
use Rattle.email_set.specs.Plans.{create_email, creates_of, steps_of}
use Rattle.email_set.specs.Views.{IsStepsOf}
use Rattle.email_set.proofs.Planning.{forbidden_all}
use Rattle.email_set.proofs.Results.{ok_map}
use Rattle.email_set.proofs.plan.plan_accepted.Goals as goal

pub returns : goal.returns
returns c =
    let g : Ground = ground_of c.args.content.now.content c.args.log.now in
    let made : List Created = c.args.made.now in
    let ms = c.args.members.now in
    let p : Creating = creates_of g.content made ms in
    let up : KeepUp c.in_ok-creates.creates p =
    subst (λ (xs : List Create). KeepUp c.in_ok-creates.creates (after_creates create_email (before_creates g.content made) xs)) c.requires.creates
    (subst (λ (ys : List Created). KeepUp c.in_ok-creates.creates (after_creates create_email (before_creates g.content ys) (map create_of c.args.creates.now))) c.as_slice.ensures (c.in_ok-creates.ensures g.content)) in
    let kept = forbidden_all (creates_in ms) (before_creates g.content made) in
    let steps : IsStepsOf c.in_ok-steps.steps (steps_of p.content p.made ms) =
    subst (λ (q : Creating). IsStepsOf c.in_ok-steps.steps (steps_of q.content q.made ms)) (sym kept) c.in_ok-steps.ensures.steps in
    ok_map c.finish_plan.result _ _
    (λ x is. is p (steps_of p.content p.made ms) up steps.reported steps.edits ∙ ap (λ (account : List ℕ). plan_after OfEmail g account p (steps_of p.content p.made ms)) c.read_account_id-account.ensures)
    c.finish_plan.ensures
