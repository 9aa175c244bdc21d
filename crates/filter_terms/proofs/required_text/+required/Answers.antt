use Rattle.std.proofs.Common.{arith}
use Rattle.filter_terms.proofs.Required.{by_item}
use Rattle.filter_terms.proofs.required_text.+required.Goals as goal

pub find_text_in_items-returns-in-Some : goal.find_text_in_items-returns-in-Some
find_text_in_items-returns-in-Some t c =
    by_item c.args.items.now c.loop-item.item-index c.item-item.result c.args.place c.in-Some.required.needle.now c.in-Some.required.alone (omega arith) c.item-item.is c.in-Some.ensures
