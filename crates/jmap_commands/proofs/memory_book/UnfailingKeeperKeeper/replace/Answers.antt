use Rattle.jmap_commands.proofs.Unfailing.{replace_counted}
use Rattle.jmap_commands.proofs.memory_book.UnfailingKeeperKeeper.replace.Goals as goal

pub returns-clause-cause : goal.returns-clause-cause
returns-clause-cause c = replace_counted c.args.whole.now c.self.inside.memory c.replace.new.self c.replace.result c.self.invariant c.replace.ensures.does
