use Rattle.keep_port.specs.Keeping.{with_row, with_row_if}
use Rattle.keep_sqlite.specs.Knowing.{IsLastOf, MayTell, content_of}
use Rattle.keep_sqlite.proofs.Answering.{content_answered, left_answered, changed_answered, writes_answered, on_ok_answered, match_answered}
use Rattle.keep_sqlite.proofs.keeper.SqliteKeeperKeeper.append.Goals as goal

pub returns-clause-kept : goal.returns-clause-kept
returns-clause-kept g c = content_answered (with_row_if c.args.row.now (content_of g.S.Store c.args.self.now.database)) (content_of g.S.Store c.args.self.now.database) (content_of g.S.Store c.append.new.self) c.append.result _ _ c.answer.result c.answer.ensures c.append.ensures.changed.content

pub returns-clause-image : goal.returns-clause-image
returns-clause-image g c = left_answered (with_row_if c.args.row.now (content_of g.S.Store c.args.self.now.database)) (MayTell g.S.Store c.args.self.now.database) (MayTell g.S.Store c.append.new.self) c.append.result _ _ c.answer.result c.answer.ensures c.append.ensures.changed.left

pub returns-clause-changed : goal.returns-clause-changed
returns-clause-changed g c = changed_answered g.S.Store (with_row_if c.args.row.now (content_of g.S.Store c.args.self.now.database)) c.args.self.now.database c.append.new.self c.append.result _ _ c.answer.result c.answer.ensures c.append.ensures.changed

pub returns-clause-writes : goal.returns-clause-writes
returns-clause-writes g c old is = writes_answered g.S.Store (IsLastOf c.args.self.now.database.last) (with_row c.args.row.now) old c.append.new.self.connection c.append.result _ _ c.answer.result c.answer.ensures (c.append.ensures.writes old is)

pub returns-clause-first : goal.returns-clause-first
returns-clause-first g c none new is clean = on_ok_answered _ c.append.result _ _ c.answer.result c.answer.ensures (c.append.ensures.first none new is clean)

pub returns-clause-last : goal.returns-clause-last
returns-clause-last g c n is = match_answered _ _ c.append.result _ _ c.answer.result c.answer.ensures (c.append.ensures.last n is)
