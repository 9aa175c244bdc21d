use Rattle.jm_base.proofs.Spliced.{brings_up_to_date}
use Rattle.jm_base.proofs.laws.show_that_a_change_brings_up_to_date.Goals as goal

pub returns : goal.returns
returns c = brings_up_to_date
