use Rattle.mail_records.proofs.Reached.{Reaches-state_at, Reaches-state_of, state_at-end, state_at-end_after, state_at-most, state_at-state_at}
use Rattle.mail_records.proofs.Settled.{SameRecords-same_state}
use Rattle.mail_records.proofs.laws.states_tell_records.Goals as goal

pub returns : goal.returns
returns c = record {
  reached_at = Reaches-state_at;
  reached = Reaches-state_of;
  most = state_at-most;
  end = state_at-end;
  after = state_at-end_after;
  again = state_at-state_at;
  same = SameRecords-same_state;
}
