use Rattle.client_follow.proofs.Parts.{last_pages_complete, pages_follow}
use Rattle.client_follow.proofs.laws.pages_bring_whole_lists.Goals as goal

pub returns-clause-follow : goal.returns-clause-follow
returns-clause-follow c = pages_follow

pub returns-clause-complete : goal.returns-clause-complete
returns-clause-complete c = last_pages_complete
