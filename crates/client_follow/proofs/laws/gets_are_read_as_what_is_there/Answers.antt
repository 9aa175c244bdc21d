use Rattle.client_follow.proofs.Gets.{gets_are_read}
use Rattle.client_follow.proofs.laws.gets_are_read_as_what_is_there.Goals as goal

pub returns : goal.returns
returns c = gets_are_read
