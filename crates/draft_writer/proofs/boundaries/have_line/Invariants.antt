use Rattle.std.proofs.Common.{◌≡◌, length}
use Rattle.draft_writer.specs.Marks.{rows_have_mark}
use Rattle.draft_writer.proofs.boundaries.have_line.Given as goal

abbrev pub invariant-loop-row : goal.invariant-loop-row
invariant-loop-row l = rows_have_mark l.mark l.left l.rest ≡ rows_have_mark l.mark l.blobs l.rows

abbrev pub decreases-loop-row : goal.decreases-loop-row
decreases-loop-row l = length l.rest
