use Rattle.std.proofs.Common.{◌∙◌}
use Rattle.jm_base.specs.declared.identifiers.Kind.TheVariants.{Email}
use Rattle.state_log.proofs.Agreement.{state_of-log}
use Rattle.copy_calls.proofs.fetch.find_state.Goals as goal

pub returns : goal.returns
returns c = c.state_of.ensures.state ∙ state_of-log c.args.account.now.history c.log.result.now Email c.log.ensures
