use Rattle.std.specs.List.{AllByRecursion}
use Rattle.mail_records.specs.Histories.{History}
use Rattle.account_hall.proofs.Closing.{front_on, front_still}
use Rattle.std.proofs.Common.{refl, sym, [], ◌++◌, ◌∙◌, map, arith, subst, List}
use Rattle.jmap_server.specs.Lines.{sight_of}
use Rattle.jmap_server.specs.Workers.{IsWorker, taken_by}
use Rattle.jmap_server.proofs.Told.{told_none, told_on}
use Rattle.jmap_server.proofs.Served.{goes_back, goes_none, goes_on}
use Rattle.jmap_server.proofs.lines.take_lines.Goals as goal

pub line-init : goal.line-init
line-init g c = record {
  told = (
    [],
    [],
    front_still c.args.front.now.roots c.args.front.now.roots refl,
    told_none (g.W.World.told c.args.world.now) (g.W.World.told c.args.world.now) refl,
    goes_none (sight_of g.W.Line.Link.left g.W.Line.Link.held g.W.Line.Link.read_faults g.W.Line.Link.put_faults g.W.Time.Clock.times g.W.Keep.Keeper.kept g.W.Keep.Keeper.append_faults) g.R.Rules.plan_of c.args.hall.now c.args.users.now (map taken_by c.args.workers.now.items) (map taken_by c.args.workers.now.items) [] [] refl refl refl,
  );
  faults = refl;
  loads = refl;
  workers = c.requires.workers;
  capacity = refl;
  front = c.requires.front;
  openings = refl;
  inside = c.requires.inside;
  admitted = omega arith;
  within = omega arith;
}

pub line-preserved : goal.line-preserved
line-preserved g c =
    let told = g.W.World.told in
    let l = c.line in
    let before = l.invariant.told.0 in
    let back = c.return_lines.ensures in
    let next = c.in-Ok.ensures in
    let mid = before ++ back.told.0 in
    let gone = l.invariant.told.1 ++ back.told.1 in
    let roots = c.args.front.now.roots in
    let out = map taken_by c.args.workers.now.items in
    record {
      told = (
        mid ++ next.told.0,
        gone ++ next.told.1,
        front_on roots c.return_lines.new.front.roots c.take_line.new.front.roots gone next.told.1 (front_on roots l.front.roots c.return_lines.new.front.roots l.invariant.told.1 back.told.1 l.invariant.told.2 back.told.2) next.told.2,
        told_on (told c.args.world.now) (told c.return_lines.new.world) (told c.take_line.new.world) mid next.told.0
            (told_on (told c.args.world.now) (told l.world) (told c.return_lines.new.world) before back.told.0 l.invariant.told.3 back.told.3) next.told.3,
        goes_on (sight_of g.W.Line.Link.left g.W.Line.Link.held g.W.Line.Link.read_faults g.W.Line.Link.put_faults g.W.Time.Clock.times g.W.Keep.Keeper.kept g.W.Keep.Keeper.append_faults) g.R.Rules.plan_of c.args.hall.now c.args.users.now l.taken 1 out (map taken_by c.return_lines.new.workers.items) (map taken_by c.take_line.new.workers.items) gone next.told.1 mid next.told.0
            (goes_back (sight_of g.W.Line.Link.left g.W.Line.Link.held g.W.Line.Link.read_faults g.W.Line.Link.put_faults g.W.Time.Clock.times g.W.Keep.Keeper.kept g.W.Keep.Keeper.append_faults) g.R.Rules.plan_of c.args.hall.now c.args.users.now l.taken out (map taken_by l.workers.items) (map taken_by c.return_lines.new.workers.items) l.invariant.told.1 back.told.1 before back.told.0 l.invariant.told.4 back.told.4) next.told.4,
      );
      faults = next.cause ∙ (back.count ∙ l.invariant.faults);
      loads = next.load_count ∙ (back.load_count ∙ l.invariant.loads);
      workers = subst (λ (hs : List History). AllByRecursion (IsWorker c.args.hall.now c.args.users.now hs) c.take_line.new.workers.items) (back.openings ∙ l.invariant.openings) next.workers;
      capacity = next.capacity ∙ (back.capacity ∙ l.invariant.capacity);
      front = next.front;
      openings = next.openings ∙ (back.openings ∙ l.invariant.openings);
      inside = next.inside;
      admitted = omega (arith, next.admitted, back.admitted, l.invariant.admitted);
      within = omega (arith, l.invariant.within);
    }

pub returns-in-Err-clause-told : goal.returns-in-Err-clause-told
returns-in-Err-clause-told g c =
    let told = g.W.World.told in
    let l = c.line in
    let before = l.invariant.told.0 in
    let back = c.return_lines.ensures in
    let next = c.in-Err.ensures in
    let mid = before ++ back.told.0 in
    let gone = l.invariant.told.1 ++ back.told.1 in
    let roots = c.args.front.now.roots in
    let out = map taken_by c.args.workers.now.items in (
      mid ++ next.told.0,
      gone ++ next.told.1,
      front_on roots c.return_lines.new.front.roots c.take_line.new.front.roots gone next.told.1 (front_on roots l.front.roots c.return_lines.new.front.roots l.invariant.told.1 back.told.1 l.invariant.told.2 back.told.2) next.told.2,
      told_on (told c.args.world.now) (told c.return_lines.new.world) (told c.take_line.new.world) mid next.told.0
          (told_on (told c.args.world.now) (told l.world) (told c.return_lines.new.world) before back.told.0 l.invariant.told.3 back.told.3) next.told.3,
      record {
        taken = l.taken;
        goes = goes_back (sight_of g.W.Line.Link.left g.W.Line.Link.held g.W.Line.Link.read_faults g.W.Line.Link.put_faults g.W.Time.Clock.times g.W.Keep.Keeper.kept g.W.Keep.Keeper.append_faults) g.R.Rules.plan_of c.args.hall.now c.args.users.now l.taken out (map taken_by c.return_lines.new.workers.items) (map taken_by c.take_line.new.workers.items) gone next.told.1 mid next.told.0
            (goes_back (sight_of g.W.Line.Link.left g.W.Line.Link.held g.W.Line.Link.read_faults g.W.Line.Link.put_faults g.W.Time.Clock.times g.W.Keep.Keeper.kept g.W.Keep.Keeper.append_faults) g.R.Rules.plan_of c.args.hall.now c.args.users.now l.taken out (map taken_by l.workers.items) (map taken_by c.return_lines.new.workers.items) l.invariant.told.1 back.told.1 before back.told.0 l.invariant.told.4 back.told.4)
            (goes_none (sight_of g.W.Line.Link.left g.W.Line.Link.held g.W.Line.Link.read_faults g.W.Line.Link.put_faults g.W.Time.Clock.times g.W.Keep.Keeper.kept g.W.Keep.Keeper.append_faults) g.R.Rules.plan_of c.args.hall.now c.args.users.now (map taken_by c.return_lines.new.workers.items) (map taken_by c.take_line.new.workers.items) next.told.1 next.told.0 next.told.4.0 next.told.4.1 next.told.4.2);
        enough = omega arith;
      },
    )

pub returns-clause-told : goal.returns-clause-told
returns-clause-told g c =
    let l = c.line in (
      l.invariant.told.0,
      l.invariant.told.1,
      l.invariant.told.2,
      l.invariant.told.3,
      record { taken = l.taken; goes = l.invariant.told.4; enough = omega (arith, l.invariant.within, c.line-test.false) },
    )

pub returns-in-Err-clause-openings : goal.returns-in-Err-clause-openings
returns-in-Err-clause-openings g c = c.in-Err.ensures.openings ∙ (c.return_lines.ensures.openings ∙ c.line.invariant.openings)

pub return_lines-requires-clause-workers : goal.return_lines-requires-clause-workers
return_lines-requires-clause-workers g c κs within = subst (λ (hs : List History). AllByRecursion (IsWorker c.args.hall.now c.args.users.now hs) c.line.workers.items) (sym c.line.invariant.openings) c.line.invariant.workers

pub take_line-requires-clause-workers : goal.take_line-requires-clause-workers
take_line-requires-clause-workers g c κs within = subst (λ (hs : List History). AllByRecursion (IsWorker c.args.hall.now c.args.users.now hs) c.return_lines.new.workers.items) (sym c.return_lines.ensures.openings) c.return_lines.ensures.workers
