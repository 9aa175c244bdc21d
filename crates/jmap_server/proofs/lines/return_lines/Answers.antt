use Rattle.std.specs.List.{AllByRecursion}
use Rattle.mail_records.specs.Histories.{History}
use Rattle.account_hall.proofs.Closing.{front_on, front_still}
use Rattle.std.proofs.Common.{refl, sym, subst, List, [], ◌++◌, ◌∙◌, map}
use Rattle.jmap_server.specs.Lines.{sight_of}
use Rattle.jmap_server.specs.Workers.{IsWorker, taken_by}
use Rattle.jmap_server.proofs.Told.{told_none, told_on}
use Rattle.jmap_server.proofs.Served.{goes_none, goes_on}
use Rattle.jmap_server.proofs.lines.return_lines.Goals as goal

pub worker-init : goal.worker-init
worker-init g c = record {
  told = (
    [],
    [],
    front_still c.args.front.now.roots c.args.front.now.roots refl,
    told_none (g.W.World.told c.args.world.now) (g.W.World.told c.args.world.now) refl,
    goes_none (sight_of g.W.Line.Link.left g.W.Line.Link.held g.W.Line.Link.read_faults g.W.Line.Link.put_faults g.W.Time.Clock.times g.W.Keep.Keeper.kept g.W.Keep.Keeper.append_faults) g.R.Rules.plan_of c.args.hall.now c.args.users.now (map taken_by c.args.workers.now.items) (map taken_by c.args.workers.now.items) [] [] refl refl refl,
  );
  faults = refl;
  loads = refl;
  workers = c.requires.workers;
  capacity = refl;
  front = c.requires.front;
  openings = refl;
  inside = c.requires.inside;
  admitted = refl;
}

pub worker-preserved : goal.worker-preserved
worker-preserved g c =
    let told = g.W.World.told in
    let l = c.worker in
    let before = l.invariant.told.0 in
    let roots = c.args.front.now.roots in
    let one = c.return_one.ensures in
    record {
      told = (
        before ++ one.told.0,
        l.invariant.told.1 ++ one.told.1,
        front_on roots l.front.roots c.return_one.new.front.roots l.invariant.told.1 one.told.1 l.invariant.told.2 one.told.2,
        told_on (told c.args.world.now) (told l.world) (told c.return_one.new.world) before one.told.0 l.invariant.told.3 one.told.3,
        goes_on (sight_of g.W.Line.Link.left g.W.Line.Link.held g.W.Line.Link.read_faults g.W.Line.Link.put_faults g.W.Time.Clock.times g.W.Keep.Keeper.kept g.W.Keep.Keeper.append_faults) g.R.Rules.plan_of c.args.hall.now c.args.users.now 0 0 (map taken_by c.args.workers.now.items) (map taken_by l.workers.items) (map taken_by c.return_one.new.workers.items) l.invariant.told.1 one.told.1 before one.told.0 l.invariant.told.4 one.told.4,
      );
      faults = one.count ∙ l.invariant.faults;
      loads = one.load_count ∙ l.invariant.loads;
      workers = subst (λ (hs : List History). AllByRecursion (IsWorker c.args.hall.now c.args.users.now hs) c.return_one.new.workers.items) l.invariant.openings one.workers;
      capacity = one.capacity ∙ l.invariant.capacity;
      front = one.front;
      openings = one.openings ∙ l.invariant.openings;
      inside = one.inside;
      admitted = one.admitted ∙ l.invariant.admitted;
    }

pub return_one-requires-clause-workers : goal.return_one-requires-clause-workers
return_one-requires-clause-workers g c κs within = subst (λ (hs : List History). AllByRecursion (IsWorker c.args.hall.now c.args.users.now hs) c.worker.workers.items) (sym c.worker.invariant.openings) c.worker.invariant.workers
