use Rattle.std.proofs.Common.{length}
use Rattle.mime_lines.specs.FieldOffsets.{lowered}
use Rattle.mime_type.specs.Grammar.{params_of, first_named}
use Rattle.mime_type.proofs.Turns.{Sees}
use Rattle.mime_type.proofs.params.find_value.Given as goal

abbrev pub invariant-loop-after : goal.invariant-loop-after
invariant-loop-after l = Sees (λ ps. first_named (lowered l.name) ps.found) (first_named (lowered l.name) (params_of l.text).found) l.rest

abbrev pub decreases-loop-after : goal.decreases-loop-after
decreases-loop-after l = length l.rest
