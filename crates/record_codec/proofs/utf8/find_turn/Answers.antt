use Rattle.std.proofs.Common.{None, Some, sym, ◌∙◌}
use Rattle.record_codec.proofs.Loops.{turns_kept, turns_over}
use Rattle.record_codec.proofs.utf8.find_turn.Goals as goal

pub returns-in-None : goal.returns-in-None
returns-in-None c = turns_kept c.loop-at.follow c.args.text.now c.args.room c.loop-at.at c.loop-at.turn _ _ _ _ None c.loop-at-test.true c.saturating_sub-left.ensures c.if-left-eq0.false c.can_rise.ensures c.choose_turn-turn.ensures (sym c.in-None.is ∙ c.advance.ensures) c.loop-at.invariant

pub loop-at-preserved : goal.loop-at-preserved
loop-at-preserved c = turns_kept c.loop-at.follow c.args.text.now c.args.room c.loop-at.at c.loop-at.turn _ _ _ _ (Some c.in-Some.next) c.loop-at-test.true c.saturating_sub-left.ensures c.if-left-eq0.false c.can_rise.ensures c.choose_turn-turn.ensures (sym c.in-Some.is ∙ c.advance.ensures) c.loop-at.invariant

pub returns-then-text-room : goal.returns-then-text-room
returns-then-text-room c = turns_over c.loop-at.follow c.args.text.now c.args.room c.loop-at.at c.loop-at.turn _ c.loop-at-test.false c.loop-at.auto.at-end c.if-text-room.true c.loop-at.invariant
