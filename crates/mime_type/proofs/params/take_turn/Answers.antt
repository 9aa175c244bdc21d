use Rattle.std.proofs.Common.{◌≤◌, ◌-◌, suc, length, take, drop, arith, rules}
use Rattle.std.proofs.lemmas.Grind.{common_steps}
use Rattle.mime_type.specs.Views.{turn_size}
use Rattle.mime_type.proofs.params.take_turn.Goals as goal

pub returns-in-59-clause-within : goal.returns-in-59-clause-within
returns-in-59-clause-within c =
    let text = c.in-Some.text.now in
    let rest = take (length text - 1) (drop 1 text) in
    let front : length text ≤ length c.args.text.now = search rules in
    let full : 1 ≤ length text = c.in-59.len_at_least in
    let size : suc (length rest) ≤ length c.args.text.now = grind (arith, common_steps, front, full) in
    let left : turn_size c.take_slot.result ≤ suc (length rest) = c.take_slot.ensures.within (length rest) c.skip_gap-in-59.ensures.within in
    omega (arith, left, size)
