use Rattle.mail_calls.specs.Laws.{summary_formed}
use Rattle.mail_calls.proofs.laws.summaries_can_be_kept.Goals as goal

pub returns : goal.returns
returns c = summary_formed
