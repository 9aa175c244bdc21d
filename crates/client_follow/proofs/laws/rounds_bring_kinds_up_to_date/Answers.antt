use Rattle.client_follow.proofs.Bringing.{kind_gets, kind_moves, kind_pages, kind_starts}
use Rattle.client_follow.proofs.laws.rounds_bring_kinds_up_to_date.Goals as goal

pub returns-clause-starts : goal.returns-clause-starts
returns-clause-starts c = kind_starts

pub returns-clause-pages : goal.returns-clause-pages
returns-clause-pages c = kind_pages

pub returns-clause-gets : goal.returns-clause-gets
returns-clause-gets c = kind_gets

pub returns-clause-moves : goal.returns-clause-moves
returns-clause-moves c = kind_moves
