use Rattle.read_replies.proofs.Once.{read_at}
use Rattle.read_replies.proofs.laws.calls_that_read_have_replies_at_points.Goals as goal

pub returns : goal.returns
returns c = read_at
