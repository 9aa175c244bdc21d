use Rattle.std.proofs.Common.{None}
use Rattle.keep_port.specs.Keeping.{with_row}
use Rattle.keep_sqlite.specs.Knowing.{IsLastOf}
use Rattle.keep_sqlite.proofs.Knowing.{writes_of_fewer}
use Rattle.keep_sqlite.proofs.database.Database.append.Goals as goal

pub returns-then-is_none-clause-writes : goal.returns-then-is_none-clause-writes
returns-then-is_none-clause-writes g c old is =
    writes_of_fewer g.S.Store (IsLastOf None) (IsLastOf c.args.self.now.last) (with_row c.args.row.now) old c.fetch_and_append.new.self.connection c.fetch_and_append.result (λ k fits. tt) (c.fetch_and_append.ensures.writes old is)
