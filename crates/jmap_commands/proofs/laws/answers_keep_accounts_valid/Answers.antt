use Rattle.jmap_commands.proofs.Performed.{stays_valid, stays_valid_uploaded}
use Rattle.jmap_commands.proofs.laws.answers_keep_accounts_valid.Goals as goal

pub returns-clause-calls : goal.returns-clause-calls
returns-clause-calls c = stays_valid

pub returns-clause-uploads : goal.returns-clause-uploads
returns-clause-uploads c = stays_valid_uploaded
