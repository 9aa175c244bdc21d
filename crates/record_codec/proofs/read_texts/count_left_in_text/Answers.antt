use Rattle.std.proofs.Common.{None, Some, sym, ◌∙◌}
use Rattle.record_codec.proofs.Loops.{text_kept}
use Rattle.record_codec.proofs.read_texts.count_left_in_text.Goals as goal

pub returns-in-None : goal.returns-in-None
returns-in-None c = text_kept c.loop-at.rest_of_text c.args.bound.now c.args.bytes.now c.loop-at.at _ _ None c.loop-at-test.true c.find_byte_at.ensures (sym c.in-None.is ∙ c.advance.ensures) c.loop-at.invariant

pub loop-at-preserved : goal.loop-at-preserved
loop-at-preserved c = text_kept c.loop-at.rest_of_text c.args.bound.now c.args.bytes.now c.loop-at.at _ _ (Some c.in-Some.next) c.loop-at-test.true c.find_byte_at.ensures (sym c.in-Some.is ∙ c.advance.ensures) c.loop-at.invariant
