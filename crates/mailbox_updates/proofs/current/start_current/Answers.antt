use Rattle.std.proofs.Common.{◌∙◌, subst, take}
use Rattle.mail_records.specs.Edits.{after_edit, after_edits}
use Rattle.set_parts.specs.Steps.{before_steps}
use Rattle.mailbox_updates.specs.UpdateViews.{Counts}
use Rattle.mailbox_updates.specs.Views.{PutsMailbox, Shows, Tracks}
use Rattle.mailbox_updates.proofs.Showing.{after_took, all_at}
use Rattle.mailbox_updates.proofs.current.start_current.Goals as goal

pub loop-edit-preserved : goal.loop-edit-preserved
loop-edit-preserved c =
    let base = c.args.content.now.content in
    let es = c.args.creates.now in
    let i = c.loop-edit.edit-index in
    let e = c.edit-item.result in
    record {
      tracks = λ puts.
          let was : Tracks c.loop-edit.current (before_steps (after_edits base (take i es))) = c.loop-edit.invariant.tracks puts in
          let put : PutsMailbox e = all_at PutsMailbox es i e puts c.loop-edit-test.true c.edit-item.is in
          let now : Shows c.enter_created.new.current (after_edit (after_edits base (take i es)) e) = c.in_ok-enter_created.ensures.shows (after_edits base (take i es)) put was.shows c.loop-edit.invariant.destroyed in
          record {
            shows = subst (Shows c.enter_created.new.current) (after_took base es i e c.loop-edit-test.true c.edit-item.is) now;
            edits = c.in_ok-enter_created.ensures.edits ∙ was.edits;
            reported = c.in_ok-enter_created.ensures.reported ∙ was.reported;
          };
      destroyed = c.in_ok-enter_created.ensures.destroyed ∙ c.loop-edit.invariant.destroyed;
      count = λ puts.
          let was : Tracks c.loop-edit.current (before_steps (after_edits base (take i es))) = c.loop-edit.invariant.tracks puts in
          let put : PutsMailbox e = all_at PutsMailbox es i e puts c.loop-edit-test.true c.edit-item.is in
          subst (Counts c.enter_created.new.current) (after_took base es i e c.loop-edit-test.true c.edit-item.is)
          (c.in_ok-enter_created.ensures.count (after_edits base (take i es)) put was.shows (c.loop-edit.invariant.count puts));
    }
