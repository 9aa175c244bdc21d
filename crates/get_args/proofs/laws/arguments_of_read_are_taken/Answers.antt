use Rattle.get_args.specs.Wanted.{read_arguments}
use Rattle.get_args.proofs.laws.arguments_of_read_are_taken.Goals as goal

pub returns : goal.returns
unfolding read_arguments
returns c = tt
