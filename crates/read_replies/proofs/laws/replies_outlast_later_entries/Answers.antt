use Rattle.read_replies.proofs.Outlasting.{reply_back, reply_on}
use Rattle.read_replies.proofs.laws.replies_outlast_later_entries.Goals as goal

pub returns-clause-on : goal.returns-clause-on
returns-clause-on c = reply_on

pub returns-clause-back : goal.returns-clause-back
returns-clause-back c = reply_back
