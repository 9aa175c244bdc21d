use Rattle.std.proofs.Common.{List, ℕ, suc, ◌++◌, length}
use Rattle.keep_sqlite.specs.Format.{AreNumbered}
use Rattle.keep_sqlite.proofs.tables.copy_all.Given as goal

-- whatever numbers the rows that are left numbers all of them, after those that were copied
abbrev pub invariant-loop-row : goal.invariant-loop-row
invariant-loop-row l = (more : List (List ℕ)) → AreNumbered (suc l.last) l.rest.items more → AreNumbered 1 l.fn.found.items (l.rows.items ++ more)

abbrev pub decreases-loop-row : goal.decreases-loop-row
decreases-loop-row l = length l.rest.items
