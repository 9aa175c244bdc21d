use Rattle.std.proofs.Common.{◌≡◌, ◌++◌, List, sym, ap, ap₂, ◌∙◌, subst}
use Rattle.std.specs.List.{AllByRecursion}
use Rattle.jm_base.specs.declared.identifiers.Kind.TheVariants.{Mailbox as OfMailbox}
use Rattle.jm_json.specs.declared.invocation.Created.{Created}
use Rattle.mail_records.specs.Edits.{after_edits}
use Rattle.mail_counts.specs.Plans.{Ground}
use Rattle.set_parts.specs.Arguments.{Create, creates_in}
use Rattle.set_parts.specs.Creates.{Creating, before_creates}
use Rattle.set_parts.specs.CreatesViews.{KeepUp}
use Rattle.set_parts.specs.Plans.{plan_after}
use Rattle.set_parts.specs.Outcomes.{ground_of, plan_of}
use Rattle.set_parts.specs.Steps.{Progress as Steps}
use Rattle.mail_counts.specs.declared.plan.SetPlan.{SetPlan}
use Rattle.mailbox_creates.specs.Rounds.{after_creates}
use Rattle.mailbox_set.specs.Sets.{plan_in, steps_after}
use Rattle.mailbox_creates.specs.Views.{Follows}
use Rattle.mailbox_set.specs.Views.{IsStepsOf}
use Rattle.mailbox_updates.specs.Views.{PutsMailbox}
use Rattle.mailbox_set.proofs.Leading.{created_by, objects_planned}
use Rattle.mailbox_updates.proofs.Showing.{if_more}
use Rattle.mailbox_set.proofs.plan.plan_objects.Goals as goal

pub returns : goal.returns
returns c =
    let content = c.args.content.now.content in
    let g : Ground = ground_of content c.args.log.now in
    let ms = c.args.members.now in
    let made : List Created = c.args.made.now in
    let p : Creating = after_creates (before_creates content made) (creates_in ms) in
    let is = created_by content made (creates_in ms) in
    let follows : Follows c.in_ok-planner.planner p = subst (λ (xs : List Create). Follows c.in_ok-planner.planner (after_creates (before_creates content made) xs)) c.requires.creates c.in_ok-planner.ensures in
    let fresh : c.as_slice-fresh.result.now ≡ p.fresh = c.as_slice-fresh.ensures ∙ follows.creates.fresh in
    let edits : c.as_slice-edits.result.now ≡ p.edits = c.as_slice-edits.ensures ∙ follows.creates.edits in
    let before : p.made ≡ c.as_slice-before.result.now ++ c.as_slice-fresh.result.now = is.made ∙ sym (ap₂ (λ (xs ys : List Created). xs ++ ys) c.as_slice-before.ensures fresh) in
    let steps : IsStepsOf c.in_ok-steps.steps (steps_after p ms) = c.in_ok-steps.ensures p before (is.content ∙ sym (ap (after_edits content) edits)) (subst (AllByRecursion PutsMailbox) (sym edits) is.puts) in
    if_more c.finish_plan.result
    (λ (x : SetPlan). (q : Creating) (s : Steps) → KeepUp c.in_ok-planner.planner.creates q → c.in_ok-steps.steps.reported ≡ s.reported → c.in_ok-steps.steps.edits ≡ s.edits
    → plan_of x ≡ plan_after OfMailbox g c.read_account_id.result.now q s)
    (λ (x : SetPlan). plan_of x ≡ plan_in g made ms)
    (λ x all. objects_planned g made ms (plan_of x) c.read_account_id.result.now c.in_ok-planner.planner c.in_ok-steps.steps c.read_account_id.ensures follows steps
    (λ (q : Creating) (s : Steps) f is. all q s f.creates is.reported is.edits))
    c.finish_plan.ensures
