use Rattle.std.proofs.Common.{refl}
use Rattle.mail_records.specs.Contents.{Content}
use Rattle.set_parts.specs.Steps.{Progress}
use Rattle.set_parts.proofs.Parts.{on_ok}
use Rattle.email_set.specs.Views.{Follows}
use Rattle.email_set.specs.declared.planner.Planner.{Planner}
use Rattle.email_set.proofs.Stepping.{destroyed}
use Rattle.email_set.proofs.steps.enter_destroy.Goals as goal

pub returns-in_ok-note_destroyed-in-Done : goal.returns-in_ok-note_destroyed-in-Done
returns-in_ok-note_destroyed-in-Done c =
    let p = c.args.planner.now in
    let q : Planner = record { edits = p.edits; last = p.last; reported = c.note_destroyed.new.self } in
    on_ok c.enter_edits.result _ _
    (λ enters (base : Content) (s : Progress) (f : Follows base c.args.planner.now s) own.
    destroyed base c.args.planner.now q c.enter_edits.new.planner s c.args.id.now c.args.step c.in-Done.edits c.in-Done.is refl refl c.in_ok-note_destroyed-in-Done.ensures f own (enters base))
    c.enter_edits.ensures
