use Rattle.query_changes.proofs.UpToDate.{brought}
use Rattle.query_changes.proofs.laws.changes_bring_lists_up_to_date.Goals as goal

pub returns : goal.returns
returns c = brought
