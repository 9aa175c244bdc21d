use Rattle.std.proofs.Common.{[], ◌∷◌, map}
use Rattle.jmap_server.specs.Deeds.{GotLine}
use Rattle.jmap_server.specs.Lines.{sight_of}
use Rattle.account_hall.specs.Closing.{opened_by}
use Rattle.jmap_server.proofs.Workers.{joined_all, joined_back, joined_hall, joined_same}
use Rattle.jmap_server.proofs.lines.return_one.Goals as goal

pub let_out-finished-requires-clause-hall : goal.let_out-finished-requires-clause-hall
let_out-finished-requires-clause-hall g c κs within =
    joined_hall (sight_of g.W.Line.Link.left g.W.Line.Link.held g.W.Line.Link.read_faults g.W.Line.Link.put_faults g.W.Time.Clock.times g.W.Keep.Keeper.kept g.W.Keep.Keeper.append_faults) g.R.Rules.plan_of c.args.hall.now c.args.users.now (map opened_by c.args.front.now.roots) c.args.workers.now.items c.join_worker-done.new.workers.items c.join_worker-done.result c.join_worker-done.ensures.joined c.requires.workers

pub returns-clause-told : goal.returns-clause-told
returns-clause-told g c =
    let out = c.let_out-finished.ensures in
    let done = c.join_worker-done.result in (
      GotLine c.let_out-finished.result ∷ [],
      done.passes ∷ [],
      out.heard (joined_same (sight_of g.W.Line.Link.left g.W.Line.Link.held g.W.Line.Link.read_faults g.W.Line.Link.put_faults g.W.Time.Clock.times g.W.Keep.Keeper.kept g.W.Keep.Keeper.append_faults) g.R.Rules.plan_of c.args.hall.now c.args.users.now (map opened_by c.args.front.now.roots) c.args.workers.now.items c.join_worker-done.new.workers.items done c.join_worker-done.ensures.joined c.requires.workers),
      c.return_line.ensures.told,
      joined_back (sight_of g.W.Line.Link.left g.W.Line.Link.held g.W.Line.Link.read_faults g.W.Line.Link.put_faults g.W.Time.Clock.times g.W.Keep.Keeper.kept g.W.Keep.Keeper.append_faults) g.R.Rules.plan_of c.args.hall.now c.args.users.now (map opened_by c.args.front.now.roots) c.args.workers.now.items c.join_worker-done.new.workers.items done c.join_worker-done.ensures.joined c.requires.workers c.let_out-finished.result out.line out.served out.trail out.points out.in_order,
    )

pub returns-clause-workers : goal.returns-clause-workers
returns-clause-workers g c =
    joined_all (sight_of g.W.Line.Link.left g.W.Line.Link.held g.W.Line.Link.read_faults g.W.Line.Link.put_faults g.W.Time.Clock.times g.W.Keep.Keeper.kept g.W.Keep.Keeper.append_faults) g.R.Rules.plan_of c.args.hall.now c.args.users.now (map opened_by c.args.front.now.roots) c.args.workers.now.items c.join_worker-done.new.workers.items c.join_worker-done.result c.join_worker-done.ensures.joined c.requires.workers
