use Rattle.std.proofs.Common.{All}
use Rattle.mail_records.specs.Commits.{IsFormed}
use Rattle.measure.proofs.keep.decoded.Given as goal

abbrev pub invariant-loop-row : goal.invariant-loop-row
invariant-loop-row l = All (λ c. IsFormed c) l.commits.items
