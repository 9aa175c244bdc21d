use Rattle.std.proofs.Common.{length}
use Rattle.mail_import.proofs.plan.perform_all.Goals as goal

pub perform_imports-requires-clause-numbers : goal.perform_imports-requires-clause-numbers
perform_imports-requires-clause-numbers c = c.in_ok-planner.ensures.numbers (length c.args.imports.now) c.requires.email c.requires.thread
