use Rattle.mail_records.proofs.Points.{SameRecords-moved_up}
use Rattle.mail_records.proofs.laws.records_stay_below_a_floor_that_moved_up.Goals as goal

pub returns : goal.returns
returns c = SameRecords-moved_up
