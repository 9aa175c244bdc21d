use Rattle.std.proofs.Common.{ap, ◌∙◌, option_map}
use Rattle.jm_json.specs.Json.{tree_of}
use Rattle.jm_base.specs.declared.identifiers.Kind.TheVariants.{Email as OfEmail}
use Rattle.mail_counts.specs.DerivedEdits.{derived_edits}
use Rattle.mail_counts.specs.Plans.{state_after}
use Rattle.set_parts.specs.Outcomes.{ground_of}
use Rattle.email_creates.specs.Emails.{Progress}
use Rattle.email_creates.specs.Views.{Follows}
use Rattle.email_creates.proofs.Planning.{plan_from_parts}
use Rattle.email_creates.proofs.plan.finish_plan.Goals as goal

pub returns : goal.returns
returns c =
    λ (s : Progress) (f : Follows c.args.content.now.content c.args.planner s).
    let content = c.args.content.now.content in
    let p = c.args.planner.creates in
    plan_from_parts (ground_of content c.args.log.now) c.args.accounts.to.now (option_map (λ x. x.now) c.args.accounts.from) s c.state_of-before.result c.find_new_state-after.result p.created p.not_created (tree_of c.in_ok-reply.reply)
    p.edits c.in_ok-more.more c.append.new.self p.fresh p.blobs c.in_ok-reply.ensures c.state_of-before.ensures.state
    (c.find_new_state-after.ensures content ∙ ap (state_after OfEmail (ground_of content c.args.log.now)) c.as_slice-2.ensures)
    f.creates.created f.creates.not_created f.creates.edits
    (c.in_ok-more.ensures.more ∙ ap (derived_edits content) c.as_slice.ensures)
    c.in_ok-append.ensures.ok
    f.creates.fresh f.creates.blobs
