use Rattle.method_args.proofs.IdTexts.{states_read_back}
use Rattle.method_args.proofs.laws.show_that_written_states_are_read.Goals as goal

pub returns : goal.returns
returns c = states_read_back
