use Rattle.std.proofs.Common.{◌≡◌, List, map, vec_capacity, vec_len}
use Rattle.std.specs.List.{AllByRecursion}
use Rattle.account_hall.specs.Halls.{AreOf}
use Rattle.account_hall.specs.Sessions.{SessionView}
use Rattle.account_hall.specs.Closing.{FrontGoes, opened_by}
use Rattle.jmap_server.specs.Deeds.{Deed, IsTold}
use Rattle.jmap_server.specs.Lines.{Goes, sight_of}
use Rattle.jmap_server.specs.Workers.{IsWorker, taken_by}
use Rattle.jmap_server.proofs.lines.return_lines.Given as goal

abbrev pub invariant-worker : goal.invariant-worker
invariant-worker g l = record {
  told : (did : List (Deed g.row.W-Keep.Denot g.row.W-Line.Denot g.row.W-Time.Denot)) × (left : List SessionView)
      × FrontGoes l.fn.front.roots l.front.roots left × IsTold (g.W.World.told l.fn.world) (g.W.World.told l.world) did
      × Goes (sight_of g.W.Line.Link.left g.W.Line.Link.held g.W.Line.Link.read_faults g.W.Line.Link.put_faults g.W.Time.Clock.times g.W.Keep.Keeper.kept g.W.Keep.Keeper.append_faults) g.R.Rules.plan_of l.hall l.users 0 (map taken_by l.fn.workers.items) (map taken_by l.workers.items) left did;
  faults : g.W.World.faults l.world ≡ g.W.World.faults l.fn.world;
  loads : g.W.World.load_faults l.world ≡ g.W.World.load_faults l.fn.world;
  workers : AllByRecursion (IsWorker l.hall l.users (map opened_by l.fn.front.roots)) l.workers.items;
  capacity : vec_capacity l.workers ≡ vec_capacity l.fn.workers;
  front : AreOf l.hall l.front.roots;
  openings : map opened_by l.front.roots ≡ map opened_by l.fn.front.roots;
  inside : l.front.inside ≡ vec_len l.workers;
  admitted : l.front.admitted ≡ l.fn.front.admitted;
}

abbrev pub decreases-worker : goal.decreases-worker
decreases-worker g l = vec_len l.workers
