use Rattle.jmap_commands.proofs.OneOutput.{account_lines, account_output}
use Rattle.jmap_commands.proofs.laws.replies_are_one.Goals as goal

pub returns-clause-output : goal.returns-clause-output
returns-clause-output c = account_output

pub returns-clause-lines : goal.returns-clause-lines
returns-clause-lines c = account_lines
