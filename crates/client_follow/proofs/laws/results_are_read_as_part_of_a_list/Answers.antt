use Rattle.client_follow.proofs.Results.{lists_are_read}
use Rattle.client_follow.proofs.laws.results_are_read_as_part_of_a_list.Goals as goal

pub returns : goal.returns
returns c = lists_are_read
