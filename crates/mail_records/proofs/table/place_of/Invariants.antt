use Rattle.std.proofs.Common.{◌<◌}
use Rattle.mail_records.specs.Tables.{IsFrom}
use Rattle.mail_records.proofs.table.place_of.Given as goal

abbrev pub invariant-loop-step : goal.invariant-loop-step
invariant-loop-step g l = IsFrom g.R.Record.number l.number l.rows l.high × (0 < l.step)

abbrev pub decreases-loop-step : goal.decreases-loop-step
decreases-loop-step g l = l.high
