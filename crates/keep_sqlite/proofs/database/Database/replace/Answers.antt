use Rattle.std.proofs.Common.{None}
use Rattle.keep_sqlite.specs.Format.{kept_rows}
use Rattle.keep_sqlite.specs.Knowing.{IsLastOf}
use Rattle.keep_sqlite.proofs.Knowing.{writes_of_fewer}
use Rattle.keep_sqlite.proofs.database.Database.replace.Goals as goal

pub returns-then-is_none-clause-writes : goal.returns-then-is_none-clause-writes
returns-then-is_none-clause-writes g c old is =
    writes_of_fewer g.S.Store (IsLastOf None) (IsLastOf c.args.self.now.last) (λ _. kept_rows c.args.rows.now) old c.fetch_and_replace.new.self.connection c.fetch_and_replace.result (λ k fits. tt) (c.fetch_and_replace.ensures.writes old is)
