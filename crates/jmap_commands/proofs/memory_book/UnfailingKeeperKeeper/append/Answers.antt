use Rattle.jmap_commands.proofs.Unfailing.{append_counted}
use Rattle.jmap_commands.proofs.memory_book.UnfailingKeeperKeeper.append.Goals as goal

pub returns-clause-cause : goal.returns-clause-cause
returns-clause-cause c = append_counted c.args.row.now c.self.inside.memory c.append.new.self c.append.result c.self.invariant c.append.ensures.does
