use Rattle.record_codec.specs.Encoding.{blob}
use Rattle.record_codec.proofs.Lengths.{listed_done}
use Rattle.record_codec.proofs.sizes.add_texts.Goals as goal

pub returns : goal.returns
returns c = listed_done blob c.args.texts.now c.loop-text.text-index c.args.sum c.loop-text.total c.loop-text-test.false c.loop-text.invariant
