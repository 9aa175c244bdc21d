use Rattle.std.proofs.Common.{◌≡◌, length}
use Rattle.draft_writer.specs.Marks.{has_line}
use Rattle.draft_writer.proofs.boundaries.has_line.Given as goal

abbrev pub invariant-loop-rest : goal.invariant-loop-rest
invariant-loop-rest l = has_line l.mark l.rest ≡ has_line l.mark l.text

abbrev pub decreases-loop-rest : goal.decreases-loop-rest
decreases-loop-rest l = length l.rest
