use Rattle.client_follow.proofs.Keeping.{kinds_begin, lists_begin, loads_begin, new_caches_agree, sessions_keep}
use Rattle.client_follow.proofs.laws.rounds_begin_where_the_cache_is.Goals as goal

pub returns-clause-empty : goal.returns-clause-empty
returns-clause-empty c = new_caches_agree

pub returns-clause-session : goal.returns-clause-session
returns-clause-session c = sessions_keep

pub returns-clause-kinds : goal.returns-clause-kinds
returns-clause-kinds c = kinds_begin

pub returns-clause-loads : goal.returns-clause-loads
returns-clause-loads c = loads_begin

pub returns-clause-lists : goal.returns-clause-lists
returns-clause-lists c = lists_begin
