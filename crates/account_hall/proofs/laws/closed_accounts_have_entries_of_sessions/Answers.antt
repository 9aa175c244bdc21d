use Rattle.account_hall.proofs.Closing.{entries_known}
use Rattle.account_hall.proofs.laws.closed_accounts_have_entries_of_sessions.Goals as goal

pub returns : goal.returns
returns c = entries_known
