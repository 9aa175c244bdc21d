use Rattle.plan_promises.proofs.Planned.{threads_kept}
use Rattle.plan_promises.proofs.laws.planned_edits_keep_threads.Goals as goal

pub returns : goal.returns
returns c = λ content es. threads_kept es content
