use Rattle.std.specs.Str.{IsUtf8}
use Rattle.record_codec.specs.Widths.{LengthFitsIn64Bits}
use Rattle.record_codec.proofs.Wide.{all_more}
use Rattle.record_codec.proofs.memory.confirm_texts_fit.Goals as goal

pub loop-text-preserved : goal.loop-text-preserved
loop-text-preserved c = (
  all_more LengthFitsIn64Bits c.args.texts.now c.loop-text.text-index c.text-item.result c.loop-text-test.true c.text-item.is c.confirm_text_fits.ensures.wide c.loop-text.invariant.0,
  all_more IsUtf8 c.args.texts.now c.loop-text.text-index c.text-item.result c.loop-text-test.true c.text-item.is c.confirm_text_fits.ensures.utf8 c.loop-text.invariant.1,
)
