use Rattle.std.proofs.Common.{ap, map, ◌∙◌}
use Rattle.account_hall.specs.Closing.{opened_by}
use Rattle.jmap_server.proofs.Openings.{joined_openings}
use Rattle.account_hall.proofs.Closing.{front_left}
use Rattle.jmap_server.proofs.served_line.let_out.Goals as goal

pub returns-clause-openings : goal.returns-clause-openings
returns-clause-openings g c = ap (map opened_by) c.leave-trail.ensures.roots ∙ joined_openings c.args.front.now.roots c.args.done.passes.passes

pub returns-clause-heard : goal.returns-clause-heard
returns-clause-heard g c = λ same. front_left c.args.front.now.roots c.leave-trail.new.self.roots c.args.done.passes c.leave-trail.ensures.roots c.leave-trail.ensures.heard c.is_in_order.ensures same
