use Rattle.std.proofs.Common.{◌≡◌, ◌≤◌, ◌+◌, drop}
use Rattle.draft_form.specs.Rows.{row_count}
use Rattle.draft_form.proofs.bodies.count_parts.Given as goal

abbrev pub invariant-loop-row : goal.invariant-loop-row
invariant-loop-row l = record {
  small : l.count ≤ l.row-index;
  value : l.count + row_count (drop l.row-index l.rows) ≡ row_count l.rows;
}
