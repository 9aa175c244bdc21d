use Rattle.std.proofs.Common.{refl, sym, subst, ◌++◌, map, Result}
use Rattle.jmap_server.specs.Deeds.{GotKeeper}
use Rattle.jmap_server.specs.Openings.{keepers_back}
use Rattle.jmap_server.specs.Lines.{sight_of}
use Rattle.jmap_server.specs.Serving.{HasServed, name_of}
use Rattle.jmap_server.specs.declared.fault.ServeFault.{ServeFault}
use Rattle.jmap_server.proofs.Told.{told_on}
use Rattle.jmap_server.proofs.Runs.{hall_served}
use Rattle.jmap_server.proofs.server.serve_hall.Goals as goal

pub returns-clause-told : goal.returns-clause-told
returns-clause-told g c =
    let told = g.W.World.told in
    let sight = (sight_of g.W.Line.Link.left g.W.Line.Link.held g.W.Line.Link.read_faults g.W.Line.Link.put_faults g.W.Time.Clock.times g.W.Keep.Keeper.kept g.W.Keep.Keeper.append_faults) in
    let served = c.serve_port-done.ensures.told in
    let closed = c.close_hall.ensures.told in (
      served.0 ++ map GotKeeper (keepers_back closed.0),
      told_on (told c.args.world.now) (told c.serve_port-done.new.world) (told c.close_hall.new.world) served.0 (map GotKeeper (keepers_back closed.0)) served.3 closed.1,
      record {
        middle = served.0;
        sessions = served.1;
        roots' = c.serve_port-done.new.front.roots;
        closings = closed.0;
        did_is = refl;
        served = subst (λ (r : Result (Unit {0}) ServeFault). HasServed sight g.R.Rules.plan_of c.args.users.now (map name_of c.args.hall) served.1 c.args.port c.args.count served.0 r) (sym c.end_of.ensures)
            (hall_served sight g.R.Rules.plan_of c.args.hall c.args.users.now served.1 c.args.port c.args.count served.0 c.serve_port-done.result served.4);
        same_openings = c.serve_port-done.ensures.openings;
        goes = served.2;
        closed = closed.2;
      },
    )
