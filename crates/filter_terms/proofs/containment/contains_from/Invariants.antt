use Rattle.std.proofs.Common.{◌≡◌, ◌∷◌, length}
use Rattle.filter_terms.specs.Contains.{contains}
use Rattle.filter_terms.proofs.containment.contains_from.Given as goal

abbrev pub invariant-loop-after : goal.invariant-loop-after
invariant-loop-after l = contains (l.first ∷ l.others) l.rest ≡ contains (l.first ∷ l.others) l.text

abbrev pub decreases-loop-after : goal.decreases-loop-after
decreases-loop-after l = length l.rest
