use Rattle.state_log.proofs.Agreement.{AreTouched-log, Reaches-history, Reaches-log, log_end-of, state_at-log, state_of-log}
use Rattle.state_log.proofs.laws.logs_tell_histories.Goals as goal

pub returns : goal.returns
returns c = record {
  end = log_end-of;
  state = state_of-log;
  state_at = state_at-log;
  reaches = Reaches-log;
  reached = Reaches-history;
  touched = AreTouched-log;
}
