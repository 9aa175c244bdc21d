use Rattle.std.proofs.Common.{◌∙◌}
use Rattle.state_log.proofs.Agreement.{state_at-log}
use Rattle.change_calls.proofs.Finding.{state_there-end}
use Rattle.change_calls.proofs.pages.find_state_at.Goals as goal

pub returns-then-more : goal.returns-then-more
returns-then-more c = λ h is. c.state_at.ensures.state ∙ state_at-log h c.args.log.now c.args.kind c.args.position is

pub returns : goal.returns
returns c = λ h is. c.state_of.ensures.state ∙ state_there-end h c.args.log.now c.args.kind c.args.position is (c.requires.end c.if-more.false)
