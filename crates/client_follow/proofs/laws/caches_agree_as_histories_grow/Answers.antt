use Rattle.client_follow.proofs.Growing.{agreement_stays}
use Rattle.client_follow.proofs.laws.caches_agree_as_histories_grow.Goals as goal

pub returns : goal.returns
returns c = agreement_stays
