use Rattle.std.proofs.Common.{◌≡◌, ◌∙◌, ◌++◌, List, ap}
use Rattle.jm_json.specs.Json.{tree_of}
use Rattle.mail_counts.specs.DerivedEdits.{derived_edits}
use Rattle.mail_counts.specs.Plans.{Ground, state_after}
use Rattle.mail_records.specs.declared.edits.Edit.{Edit}
use Rattle.set_parts.specs.Creates.{Creating}
use Rattle.set_parts.specs.CreatesViews.{KeepUp}
use Rattle.set_parts.specs.Outcomes.{Plan, ground_of}
use Rattle.set_parts.specs.Steps.{Progress}
use Rattle.set_parts.specs.declared.reported.Reported.{Reported}
use Rattle.set_parts.proofs.Planning.{edits_from_parts, finished, reported_from_parts}
use Rattle.set_parts.proofs.plans.finish_plan.Goals as goal

pub returns : goal.returns
returns c =
    λ (p : Creating) (s : Progress) (up : KeepUp c.args.creates p) told own.
    let content = c.args.content.now.content in
    let g : Ground = ground_of content c.args.log.now in
    let r : Reported = record c.args.reported { created = c.args.creates.created; not_created = c.args.creates.not_created } in
    let x : Plan = record { reply = tree_of c.in_ok-reply.reply; edits = c.append-2.new.self; made = c.args.creates.fresh; blobs = c.args.creates.blobs } in
    let following : c.in_ok-following.following ≡ derived_edits content (c.args.creates.edits ++ c.args.edits) = c.in_ok-following.ensures.more ∙ ap (derived_edits content) (c.as_slice.ensures ∙ c.in_ok-append.ensures.ok) in
    finished c.args.kind g c.args.account.now p s c.state_of-before.result c.find_new_state-after.result r x
    (record {
      reply = c.in_ok-reply.ensures;
      edits = c.in_ok-append-2.ensures.ok
          ∙ (ap (λ (es : List Edit). es ++ c.in_ok-following.following) c.in_ok-append.ensures.ok
          ∙ edits_from_parts c.args.creates.edits c.args.edits c.in_ok-following.following p.edits s.edits (derived_edits content) up.edits own following);
      made = up.fresh;
      blobs = up.blobs;
      before_is = c.state_of-before.ensures.state;
      after_is = c.find_new_state-after.ensures content ∙ ap (state_after c.args.kind g) c.as_slice-2.ensures;
      reported = reported_from_parts p c.args.reported s.reported c.args.creates.created c.args.creates.not_created up.created up.not_created told;
    })
