use Rattle.std.proofs.Common.{◌≡◌, ◌≤◌, suc, length, refl, sym, ap, ◌∙◌}
use Rattle.mime_type.specs.Grammar.{turn_at, skips, gives}
use Rattle.mime_type.specs.Views.{pair, turn}
use Rattle.mime_type.proofs.Turns.{begun, ended, broke, skipped, passed}
use Rattle.mime_type.proofs.params.is_whole.Goals as goal

pub returns-in-Ends : goal.returns-in-Ends
returns-in-Ends c = ended (λ ps. ps.whole) _ c.loop-after.rest.now c.loop-after.invariant (sym c.take_turn.ensures.value ∙ ap turn c.in-Ends.is)

pub returns-in-Breaks : goal.returns-in-Breaks
returns-in-Breaks c = broke (λ ps. ps.whole) _ c.loop-after.rest.now c.loop-after.invariant (sym c.take_turn.ensures.value ∙ ap turn c.in-Breaks.is)

pub loop-after-preserved-in-Skips : goal.loop-after-preserved-in-Skips
loop-after-preserved-in-Skips c =
    let t : turn_at c.loop-after.rest.now ≡ skips c.in-Skips.after.now = sym c.take_turn.ensures.value ∙ ap turn c.in-Skips.is in
    let less : suc (length c.in-Skips.after.now) ≤ length c.loop-after.rest.now = rw c.in-Skips.is at c.take_turn.ensures.within in
    skipped (λ ps. ps.whole) _ c.loop-after.rest.now c.in-Skips.after.now c.loop-after.invariant t less

pub loop-after-preserved : goal.loop-after-preserved
loop-after-preserved c =
    let p = c.in-Gives.field-0 in
    let t : turn_at c.loop-after.rest.now ≡ gives (pair p) c.in-Gives.after.now = sym c.take_turn.ensures.value ∙ ap turn c.in-Gives.is in
    let less : suc (length c.in-Gives.after.now) ≤ length c.loop-after.rest.now = rw c.in-Gives.is at c.take_turn.ensures.within in
    passed (λ ps. ps.whole) _ c.loop-after.rest.now c.in-Gives.after.now (pair p) c.loop-after.invariant t less (λ later. refl)

pub loop-after-init : goal.loop-after-init
loop-after-init c = begun (λ ps. ps.whole) c.args.text.now
