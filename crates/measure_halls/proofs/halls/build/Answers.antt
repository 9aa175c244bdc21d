use Rattle.account_hall.proofs.Counted.{built_count}
use Rattle.measure_halls.proofs.halls.build.Goals as goal

pub returns-in-Ok-clause-count : goal.returns-in-Ok-clause-count
returns-in-Ok-clause-count g c = built_count c.args.accounts.items c.in-Ok.built.0 c.in-Ok.built.1.roots c.in-Ok.ensures.built
