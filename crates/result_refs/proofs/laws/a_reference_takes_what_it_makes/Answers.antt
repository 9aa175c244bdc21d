use Rattle.result_refs.proofs.Taken.{referred_made}
use Rattle.result_refs.proofs.laws.a_reference_takes_what_it_makes.Goals as goal

pub returns : goal.returns
returns c = referred_made
