use Rattle.method_batch.proofs.Singles.{tree_answered, bytes_answered}
use Rattle.method_batch.proofs.laws.show_that_a_single_call_is_answered_by_the_port.Goals as goal

pub returns-clause-tree : goal.returns-clause-tree
returns-clause-tree g c call old new outcome plain h = tree_answered g.P.Port.answers old new call outcome plain h

pub returns-clause-bytes : goal.returns-clause-bytes
returns-clause-bytes g c call request old new outcome plain read short h = bytes_answered g.P.Port.answers old new call request outcome plain read short h
