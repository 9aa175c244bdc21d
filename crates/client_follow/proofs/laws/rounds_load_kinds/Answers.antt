use Rattle.client_follow.proofs.Loading.{load_gets, load_pages, thread_gets}
use Rattle.client_follow.proofs.laws.rounds_load_kinds.Goals as goal

pub returns-clause-pages : goal.returns-clause-pages
returns-clause-pages c = load_pages

pub returns-clause-gets : goal.returns-clause-gets
returns-clause-gets c = load_gets

pub returns-clause-threads : goal.returns-clause-threads
returns-clause-threads c = thread_gets
