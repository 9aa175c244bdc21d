use Rattle.std.proofs.lemmas.Map.Keys.{sorted_from_strictly_increasing}
use Rattle.mail_counts.proofs.Sorted.{rising-is}
use Rattle.mail_counts.proofs.touched.put_in_order.Goals as goal

pub returns-clause-is : goal.returns-clause-is
returns-clause-is c =
    let numbers = c.put_in_order.new.numbers.items in
    rising-is c.args.numbers.now.items numbers (sorted_from_strictly_increasing numbers c.put_in_order.ensures.rise) c.put_in_order.ensures.same

pub returns-clause-rise : goal.returns-clause-rise
returns-clause-rise c = sorted_from_strictly_increasing c.put_in_order.new.numbers.items c.put_in_order.ensures.rise
