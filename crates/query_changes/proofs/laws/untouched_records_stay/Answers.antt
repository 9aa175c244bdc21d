use Rattle.query_changes.proofs.Touching.{are_the_touched}
use Rattle.query_changes.proofs.UpToDate.{untouched_ordered, untouched_shown}
use Rattle.query_changes.proofs.laws.untouched_records_stay.Goals as goal

pub returns : goal.returns
returns c = record { touched = are_the_touched; shown = untouched_shown; order = untouched_ordered }
