use Rattle.method_args.proofs.IdTexts.{ids_read_back}
use Rattle.method_args.proofs.laws.show_that_written_ids_are_read.Goals as goal

pub returns : goal.returns
returns c = ids_read_back
