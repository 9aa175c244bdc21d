use Rattle.std.proofs.Common.{◌∙◌, ◌++◌, ◌∷◌, [], ap}
use Rattle.mail_records.specs.Contents.{Content}
use Rattle.set_parts.specs.Steps.{Progress}
use Rattle.email_set.specs.Views.{Follows}
use Rattle.email_set.specs.declared.planner.Planner.{Planner}
use Rattle.email_set.proofs.Entering.{entered}
use Rattle.email_set.proofs.planner.enter_edit.Goals as goal

pub returns : goal.returns
returns c =
    λ (base : Content) (s : Progress) (f : Follows base c.args.planner.now s) own.
    let q : Planner = record {
      edits = c.push.new.self;
      last = c.note_edit.new.planner.last;
      reported = c.note_edit.new.planner.reported;
    } in
    entered base s c.args.planner.now q c.args.edit
    (record {
      edits = c.in_ok-push.ensures.items ∙ ap (λ v. v.items ++ c.args.edit ∷ []) c.in_ok-note_edit.ensures.edits;
      reported = c.in_ok-note_edit.ensures.reported;
      last = c.in_ok-note_edit.ensures.last;
    })
    own f
