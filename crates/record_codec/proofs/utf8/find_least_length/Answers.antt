use Rattle.std.proofs.Common.{None, Some, drop, sym, ◌∙◌, arith}
use Rattle.record_codec.proofs.Loops.{least_begins, least_stops, least_kept, least_none}
use Rattle.record_codec.proofs.utf8.find_least_length.Goals as goal

pub loop-at-init : goal.loop-at-init
loop-at-init c = (omega arith, least_begins c.args.text.now)

pub returns-then-least-at : goal.returns-then-least-at
returns-then-least-at c = least_stops (Some c.loop-at.follow) (drop c.loop-at.at c.args.text.now) c.loop-at.at c.loop-at.least _ c.if-least-at.true c.loop-at.invariant.1

pub returns-in-None : goal.returns-in-None
returns-in-None c =
    let kept = least_kept c.loop-at.follow c.args.text.now c.loop-at.at c.loop-at.least _ _ _ None c.loop-at-test.true c.if-least-at.false c.count_bytes_to_rise.ensures c.choose_lesser_length-least.ensures (sym c.in-None.is ∙ c.advance.ensures) c.loop-at.invariant in
    least_none c.args.text.now c.loop-at.at c.choose_lesser_length-least.result _ c.loop-at-test.true kept.0 kept.1

pub loop-at-preserved : goal.loop-at-preserved
loop-at-preserved c = least_kept c.loop-at.follow c.args.text.now c.loop-at.at c.loop-at.least _ _ _ (Some c.in-Some.next) c.loop-at-test.true c.if-least-at.false c.count_bytes_to_rise.ensures c.choose_lesser_length-least.ensures (sym c.in-Some.is ∙ c.advance.ensures) c.loop-at.invariant
