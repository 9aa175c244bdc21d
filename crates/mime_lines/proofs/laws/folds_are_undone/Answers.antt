use Rattle.mime_lines.proofs.Unfolds.{folds_back}
use Rattle.mime_lines.proofs.laws.folds_are_undone.Goals as goal

pub returns : goal.returns
returns c = folds_back
