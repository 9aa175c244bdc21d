use Rattle.std.proofs.Common.{◌∙◌}
use Rattle.state_log.proofs.Agreement.{state_of-log}
use Rattle.mail_calls.proofs.blobs.find_state.Goals as goal

pub returns : goal.returns
returns c = c.state_of.ensures.state ∙ state_of-log c.args.account.now.history c.log.result.now c.args.kind c.log.ensures
