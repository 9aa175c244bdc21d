use Rattle.std.proofs.Common.{rules}
use Rattle.jmap_commands.proofs.Alone.{built_of}
use Rattle.jmap_commands.proofs.one_session.build_one.Goals as goal

pub returns-in-Ok-clause-built : goal.returns-in-Ok-clause-built
returns-in-Ok-clause-built g c = built_of (record { name = c.args.name; book = c.args.book }) c.push_reserved.new.self.items c.in-Ok.built.0 c.in-Ok.built.1.roots (search rules) c.in-Ok.ensures.built
