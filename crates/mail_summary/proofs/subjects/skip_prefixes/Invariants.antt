use Rattle.std.proofs.Common.{◌≡◌, length}
use Rattle.mail_summary.specs.Subjects.{without_prefixes}
use Rattle.mail_summary.proofs.subjects.skip_prefixes.Given as goal

abbrev pub invariant-loop-after : goal.invariant-loop-after
invariant-loop-after l = without_prefixes l.rest 0 ≡ without_prefixes l.text 0

abbrev pub decreases-loop-after : goal.decreases-loop-after
decreases-loop-after l = length l.rest
