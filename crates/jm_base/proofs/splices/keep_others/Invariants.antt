use Rattle.std.proofs.Common.{◌≡◌, ◌++◌, drop}
use Rattle.jm_base.specs.Splices.{without}
use Rattle.jm_base.proofs.splices.keep_others.Given as goal

abbrev pub invariant-loop-number : goal.invariant-loop-number
invariant-loop-number l = l.kept.items ++ without (drop l.number-index l.list) l.removed.items ≡ without l.list l.removed.items
