use Rattle.std.proofs.Common.{length}
use Rattle.draft_writer.proofs.parts.+holds_raw.Given as goal

abbrev pub decreases-holds_raw : goal.decreases-holds_raw
decreases-holds_raw l = length l.rows.now
