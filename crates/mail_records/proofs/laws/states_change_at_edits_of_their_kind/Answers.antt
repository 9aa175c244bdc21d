use Rattle.mail_records.proofs.Points.{state_of-rises, state_of-unchanged}
use Rattle.mail_records.proofs.laws.states_change_at_edits_of_their_kind.Goals as goal

pub returns : goal.returns
returns c = record { unchanged = state_of-unchanged; later = state_of-rises }
