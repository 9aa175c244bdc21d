use Rattle.record_codec.specs.Widths.{IsWideEdit}
use Rattle.record_codec.specs.Offsets.{HasTextsInEdit}
use Rattle.record_codec.proofs.Wide.{all_more}
use Rattle.record_codec.proofs.memory.confirm_edits_fit.Goals as goal

pub loop-edit-preserved : goal.loop-edit-preserved
loop-edit-preserved c = (
  all_more IsWideEdit c.args.edits.now c.loop-edit.edit-index c.edit-item.result c.loop-edit-test.true c.edit-item.is c.confirm_edit_fits.ensures.wide c.loop-edit.invariant.0,
  all_more HasTextsInEdit c.args.edits.now c.loop-edit.edit-index c.edit-item.result c.loop-edit-test.true c.edit-item.is c.confirm_edit_fits.ensures.texts c.loop-edit.invariant.1,
)
