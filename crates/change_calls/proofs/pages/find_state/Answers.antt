use Rattle.std.proofs.Common.{◌∙◌, sym}
use Rattle.std.proofs.lemmas.Bool.{true≢false}
use Rattle.change_calls.proofs.Finding.{found_state, no_state, unreached_state}
use Rattle.change_calls.proofs.pages.find_state.Goals as goal

pub returns-then-reaches-clause-state : goal.returns-then-reaches-clause-state
returns-then-reaches-clause-state c =
    λ h is. found_state h c.args.log.now c.args.kind c.args.text.now c.in-Ok.position is c.in-Ok.ensures.ok (c.reaches.ensures.0 c.if-reaches.true)

pub returns-else-reaches-clause-state : goal.returns-else-reaches-clause-state
returns-else-reaches-clause-state c =
    λ h is.
    unreached_state h c.args.log.now c.args.kind c.args.text.now c.in-Ok.position is c.in-Ok.ensures.ok (λ reached. true≢false (sym (c.reaches.ensures.1 reached) ∙ c.if-reaches.false))

pub returns-in-Err-clause-state : goal.returns-in-Err-clause-state
returns-in-Err-clause-state c = λ h is. no_state h c.args.kind c.args.text.now c.in-Err.ensures.err
