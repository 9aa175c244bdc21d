use Rattle.read_replies.proofs.Once.{read_once}
use Rattle.read_replies.proofs.laws.calls_that_read_change_nothing.Goals as goal

pub returns : goal.returns
returns c = read_once
