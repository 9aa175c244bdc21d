use Rattle.jmap_commands.proofs.Unfailing.{load_counted}
use Rattle.jmap_commands.proofs.memory_book.UnfailingKeeperKeeper.load.Goals as goal

pub returns-clause-cause : goal.returns-clause-cause
returns-clause-cause c = load_counted c.self.inside.memory c.load.new.self c.load.result c.self.invariant c.load.ensures.does
