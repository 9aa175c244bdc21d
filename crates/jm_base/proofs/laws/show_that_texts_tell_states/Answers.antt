use Rattle.jm_base.proofs.Decimals.{texts_tell_states}
use Rattle.jm_base.proofs.laws.show_that_texts_tell_states.Goals as goal

pub returns : goal.returns
returns c = texts_tell_states
