use Rattle.jm_base.proofs.Spliced.{becomes_the_other}
use Rattle.jm_base.proofs.laws.show_that_a_list_becomes_the_other.Goals as goal

pub returns : goal.returns
returns c = becomes_the_other
