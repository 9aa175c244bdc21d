use Rattle.get_args.proofs.Cached.{cached_are_read}
use Rattle.get_args.proofs.laws.arguments_of_a_client_are_taken.Goals as goal

pub returns : goal.returns
returns c = cached_are_read
