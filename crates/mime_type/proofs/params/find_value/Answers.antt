use Rattle.std.proofs.Common.{◌≡◌, ◌≤◌, suc, true, false, length, bytes_eq, refl, sym, ap, ◌∙◌}
use Rattle.mime_lines.specs.FieldOffsets.{lowered}
use Rattle.mime_type.specs.Grammar.{turn_at, skips, gives, first_named}
use Rattle.mime_type.specs.Views.{pair, turn}
use Rattle.mime_type.proofs.Turns.{begun, ended, broke, skipped, gave, passed}
use Rattle.mime_type.proofs.params.find_value.Goals as goal

pub returns-in-Ends : goal.returns-in-Ends
returns-in-Ends c = ended (λ ps. first_named (lowered c.args.name.now) ps.found) _ c.loop-after.rest.now c.loop-after.invariant (sym c.take_turn.ensures.value ∙ ap turn c.in-Ends.is)

pub returns-in-Breaks : goal.returns-in-Breaks
returns-in-Breaks c = broke (λ ps. first_named (lowered c.args.name.now) ps.found) _ c.loop-after.rest.now c.loop-after.invariant (sym c.take_turn.ensures.value ∙ ap turn c.in-Breaks.is)

pub loop-after-preserved-in-Skips : goal.loop-after-preserved-in-Skips
loop-after-preserved-in-Skips c =
    let t : turn_at c.loop-after.rest.now ≡ skips c.in-Skips.after.now = sym c.take_turn.ensures.value ∙ ap turn c.in-Skips.is in
    let less : suc (length c.in-Skips.after.now) ≤ length c.loop-after.rest.now = rw c.in-Skips.is at c.take_turn.ensures.within in
    skipped (λ ps. first_named (lowered c.args.name.now) ps.found) _ c.loop-after.rest.now c.in-Skips.after.now c.loop-after.invariant t less

pub returns-then-is_named : goal.returns-then-is_named
returns-then-is_named c =
    let p = c.in-Gives.param in
    let t : turn_at c.loop-after.rest.now ≡ gives (pair p) c.in-Gives.after.now = sym c.take_turn.ensures.value ∙ ap turn c.in-Gives.is in
    let named : bytes_eq (pair p).name (lowered c.args.name.now) ≡ true = sym c.is_named.ensures ∙ c.if-is_named.true in
    let given = gave (λ ps. first_named (lowered c.args.name.now) ps.found) _ c.loop-after.rest.now c.in-Gives.after.now (pair p) c.loop-after.invariant t in
    rw named at given.2

pub loop-after-preserved : goal.loop-after-preserved
loop-after-preserved c =
    let p = c.in-Gives.param in
    let t : turn_at c.loop-after.rest.now ≡ gives (pair p) c.in-Gives.after.now = sym c.take_turn.ensures.value ∙ ap turn c.in-Gives.is in
    let less : suc (length c.in-Gives.after.now) ≤ length c.loop-after.rest.now = rw c.in-Gives.is at c.take_turn.ensures.within in
    let other : bytes_eq (pair p).name (lowered c.args.name.now) ≡ false = sym c.is_named.ensures ∙ c.if-is_named.false in
    passed (λ ps. first_named (lowered c.args.name.now) ps.found) _ c.loop-after.rest.now c.in-Gives.after.now (pair p) c.loop-after.invariant t less (λ later. rw other refl)

pub loop-after-init : goal.loop-after-init
loop-after-init c = begun (λ ps. first_named (lowered c.args.name.now) ps.found) c.args.text.now
