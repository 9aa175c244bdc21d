use Rattle.sort_terms.proofs.Total.{irreflexive, total, transitive}
use Rattle.sort_terms.proofs.laws.orders_are_strict.Goals as goal

pub returns : goal.returns
returns c = record { irreflexive = irreflexive; transitive = transitive; total = total }
