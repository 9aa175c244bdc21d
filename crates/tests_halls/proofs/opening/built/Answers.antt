use Rattle.account_hall.proofs.Counted.{built_count}
use Rattle.tests_halls.proofs.opening.built.Goals as goal

pub returns-clause-count : goal.returns-clause-count
returns-clause-count g c = built_count c.args.accounts.items c.in-Ok.built.0 c.in-Ok.built.1.roots c.in-Ok.ensures.built
