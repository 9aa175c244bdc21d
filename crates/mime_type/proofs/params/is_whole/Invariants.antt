use Rattle.std.proofs.Common.{length}
use Rattle.mime_type.specs.Grammar.{params_of}
use Rattle.mime_type.proofs.Turns.{Sees}
use Rattle.mime_type.proofs.params.is_whole.Given as goal

abbrev pub invariant-loop-after : goal.invariant-loop-after
invariant-loop-after l = Sees (λ ps. ps.whole) (params_of l.text).whole l.rest

abbrev pub decreases-loop-after : goal.decreases-loop-after
decreases-loop-after l = length l.rest
