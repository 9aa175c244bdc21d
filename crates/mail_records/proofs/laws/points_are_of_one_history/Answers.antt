use Rattle.mail_records.proofs.Points.{state_at-rises, state_at-account_after, edits_between-account_after, ids_between-account_after, grown_by-account_after}
use Rattle.mail_records.proofs.laws.points_are_of_one_history.Goals as goal

pub returns : goal.returns
returns c = record {
  rises = state_at-rises;
  state = state_at-account_after;
  edits = edits_between-account_after;
  ids = ids_between-account_after;
  whole = grown_by-account_after;
}
