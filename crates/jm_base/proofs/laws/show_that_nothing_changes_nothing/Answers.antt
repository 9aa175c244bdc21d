use Rattle.jm_base.proofs.Spliced.{nothing_changes}
use Rattle.jm_base.proofs.laws.show_that_nothing_changes_nothing.Goals as goal

pub returns : goal.returns
returns c = nothing_changes
