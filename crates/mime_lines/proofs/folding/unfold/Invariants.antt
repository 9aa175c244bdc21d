use Rattle.std.proofs.Common.{◌≡◌, ◌++◌, length}
use Rattle.mime_lines.specs.Lines.{unfolded}
use Rattle.mime_lines.proofs.folding.unfold.Given as goal

abbrev pub invariant-loop-rest : goal.invariant-loop-rest
invariant-loop-rest l = l.line ++ unfolded l.rest ≡ unfolded l.value

abbrev pub decreases-loop-rest : goal.decreases-loop-rest
decreases-loop-rest l = length l.rest
