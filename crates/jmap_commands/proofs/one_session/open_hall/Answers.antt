use Rattle.jmap_commands.proofs.Alone.{first_in, one_in}
use Rattle.jmap_commands.proofs.one_session.open_hall.Goals as goal

pub returns-in-Ok-clause-one : goal.returns-in-Ok-clause-one
returns-in-Ok-clause-one g c = one_in c.args.book.before c.args.book.opened _ _ c.in_ok-hall.ensures.built c.admit.new.self _ _ c.in_ok-hall.ensures.inside.0 c.in-Ok.ensures.roots

pub returns-in-Ok-clause-first : goal.returns-in-Ok-clause-first
returns-in-Ok-clause-first g c = first_in c.args.book.before c.args.book.opened _ _ c.in_ok-hall.ensures.built c.in-Ok.passes c.in-Ok.ensures.passes.0 c.in-Ok.ensures.passes.1
