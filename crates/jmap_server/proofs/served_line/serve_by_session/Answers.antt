use Rattle.jmap_server.specs.Lines.{sight_of}
use Rattle.jmap_server.proofs.Workers.{finished_line}
use Rattle.jmap_server.proofs.served_line.serve_by_session.Goals as goal

pub returns : goal.returns
returns g c =
    let done = c.serve_connection-served.ensures in
    let same = c.finish.ensures in
    finished_line (sight_of g.L.Link.left g.L.Link.held g.L.Link.read_faults g.L.Link.put_faults g.C.Clock.times g.K.Keeper.kept g.K.Keeper.append_faults) g.R.Rules.plan_of c.args.hall.now c.args.users.now c.args.line c.serve_connection-served.new.link c.finish.new.self c.args.clock c.serve_connection-served.new.clock c.args.passes
    c.serve_connection-served.result.1 c.serve_connection-served.result.0 c.requires.fresh done.hall same.left same.held same.read_faults same.put_faults done.served
