use Rattle.std.proofs.Common.{◌≡◌}
use Rattle.sqlite.specs.Held.{state}
use Rattle.keep_sqlite.proofs.Replacing.{IsInserting}
use Rattle.keep_sqlite.proofs.tables.insert_all.Given as goal

abbrev pub invariant-loop-row : goal.invariant-loop-row
invariant-loop-row g l = record {
  reference : l.tx.conn.ghost_name ≡ l.fn.tx.conn.ghost_name;
  last : l.last ≡ l.row-index;
  inserting : IsInserting (state g.S.Store l.fn.tx.conn.now) (state g.S.Store l.tx.conn.now) l.fn.rows l.last;
}
