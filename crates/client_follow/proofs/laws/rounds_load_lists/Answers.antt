use Rattle.client_follow.proofs.Loading.{list_pages}
use Rattle.client_follow.proofs.laws.rounds_load_lists.Goals as goal

pub returns : goal.returns
returns c = list_pages
