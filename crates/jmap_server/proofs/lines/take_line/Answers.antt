use Rattle.std.proofs.Common.{[], ◌∷◌, ◌++◌, map, refl, None, Some, arith}
use Rattle.account_hall.specs.Closing.{opened_by}
use Rattle.account_hall.proofs.Closing.{front_still}
use Rattle.jmap_server.specs.Deeds.{GotLine}
use Rattle.jmap_server.specs.Lines.{sight_of, taken_of, taking}
use Rattle.jmap_server.proofs.Told.{told_on, told_taking}
use Rattle.jmap_server.proofs.Workers.{handed_all, handed_back, handed_taken}
use Rattle.jmap_server.proofs.lines.take_line.Goals as goal

pub returns-in-Some-clause-told : goal.returns-in-Some-clause-told
returns-in-Some-clause-told g c =
    let told = g.W.World.told in
    let line = c.in-Ok.line in
    let clock = c.clock-clock.result in
    let finished = c.in-Some.finished in
    let given = told_taking (told c.args.world.now) (told c.line.new.self) (told c.clock-clock.new.self) (told c.gate-gate.new.self) line clock c.in-Ok.ensures.told c.clock-clock.ensures.told c.gate-gate.ensures.told in (
      taking (taken_of line clock) ++ GotLine finished ∷ [],
      c.in-Some.ensures.handed.0,
      c.in-Some.ensures.handed.2,
      told_on (told c.args.world.now) (told c.gate-gate.new.self) (told c.return_line.new.self) (taking (taken_of line clock)) (GotLine finished ∷ []) given c.return_line.ensures.told,
      handed_back (sight_of g.W.Line.Link.left g.W.Line.Link.held g.W.Line.Link.read_faults g.W.Line.Link.put_faults g.W.Time.Clock.times g.W.Keep.Keeper.kept g.W.Keep.Keeper.append_faults) g.R.Rules.plan_of c.args.hall.now c.args.users.now (map opened_by c.args.front.now.roots) line clock finished c.args.workers.now.items c.serve_line.new.workers.items c.in-Some.ensures.handed.0 (omega (arith, c.requires.few, c.args.workers.now.ok.0)) c.in-Some.ensures.handed.1,
    )

pub returns-in-None-clause-told : goal.returns-in-None-clause-told
returns-in-None-clause-told g c =
    let told = g.W.World.told in
    let line = c.in-Ok.line in
    let clock = c.clock-clock.result in (
      taking (taken_of line clock),
      c.in-None.ensures.handed.0,
      c.in-None.ensures.handed.2,
      told_taking (told c.args.world.now) (told c.line.new.self) (told c.clock-clock.new.self) (told c.gate-gate.new.self) line clock c.in-Ok.ensures.told c.clock-clock.ensures.told c.gate-gate.ensures.told,
      handed_taken (sight_of g.W.Line.Link.left g.W.Line.Link.held g.W.Line.Link.read_faults g.W.Line.Link.put_faults g.W.Time.Clock.times g.W.Keep.Keeper.kept g.W.Keep.Keeper.append_faults) g.R.Rules.plan_of c.args.hall.now c.args.users.now (map opened_by c.args.front.now.roots) line clock c.args.workers.now.items c.serve_line.new.workers.items c.in-None.ensures.handed.0 (omega (arith, c.requires.few, c.args.workers.now.ok.0)) c.in-None.ensures.handed.1,
    )

pub returns-in-Some-clause-workers : goal.returns-in-Some-clause-workers
returns-in-Some-clause-workers g c =
    handed_all (sight_of g.W.Line.Link.left g.W.Line.Link.held g.W.Line.Link.read_faults g.W.Line.Link.put_faults g.W.Time.Clock.times g.W.Keep.Keeper.kept g.W.Keep.Keeper.append_faults) g.R.Rules.plan_of c.args.hall.now c.args.users.now (map opened_by c.args.front.now.roots) c.in-Ok.line c.clock-clock.result c.args.workers.now.items c.serve_line.new.workers.items c.in-Some.ensures.handed.0 (Some c.in-Some.finished) c.in-Some.ensures.handed.1 c.requires.workers

pub returns-in-None-clause-workers : goal.returns-in-None-clause-workers
returns-in-None-clause-workers g c =
    handed_all (sight_of g.W.Line.Link.left g.W.Line.Link.held g.W.Line.Link.read_faults g.W.Line.Link.put_faults g.W.Time.Clock.times g.W.Keep.Keeper.kept g.W.Keep.Keeper.append_faults) g.R.Rules.plan_of c.args.hall.now c.args.users.now (map opened_by c.args.front.now.roots) c.in-Ok.line c.clock-clock.result c.args.workers.now.items c.serve_line.new.workers.items c.in-None.ensures.handed.0 None c.in-None.ensures.handed.1 c.requires.workers

pub returns-in-Err-clause-told : goal.returns-in-Err-clause-told
returns-in-Err-clause-told g c = ([], [], front_still c.args.front.now.roots c.args.front.now.roots refl, c.in-Err.ensures.told, (refl, refl, refl))
