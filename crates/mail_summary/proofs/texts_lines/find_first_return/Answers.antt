use Rattle.mail_summary.proofs.Returns.{first_of}
use Rattle.mail_summary.proofs.texts_lines.find_first_return.Goals as goal

pub returns-clause-within : goal.returns-clause-within
returns-clause-within c = (first_of c.args.block.now c.load.result c.mark_returns.result c.collect_marked_bits-bits.result c.find_lowest_bit.result c.load.ensures c.mark_returns.ensures c.collect_marked_bits-bits.ensures c.find_lowest_bit.ensures.set c.find_lowest_bit.ensures.below).0

pub returns-clause-some : goal.returns-clause-some
returns-clause-some c = (first_of c.args.block.now c.load.result c.mark_returns.result c.collect_marked_bits-bits.result c.find_lowest_bit.result c.load.ensures c.mark_returns.ensures c.collect_marked_bits-bits.ensures c.find_lowest_bit.ensures.set c.find_lowest_bit.ensures.below).1

pub returns-clause-before : goal.returns-clause-before
returns-clause-before c = (first_of c.args.block.now c.load.result c.mark_returns.result c.collect_marked_bits-bits.result c.find_lowest_bit.result c.load.ensures c.mark_returns.ensures c.collect_marked_bits-bits.ensures c.find_lowest_bit.ensures.set c.find_lowest_bit.ensures.below).2
