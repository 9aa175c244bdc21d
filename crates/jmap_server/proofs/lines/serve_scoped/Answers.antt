use Rattle.account_hall.proofs.Closing.{front_on, front_still}
use Rattle.std.proofs.Common.{refl, [], ◌++◌, ◌∙◌, map, arith, ap, Ok, Err}
use Rattle.jmap_server.specs.Lines.{sight_of}
use Rattle.jmap_server.specs.Workers.{taken_by}
use Rattle.jmap_server.proofs.Told.{told_none, told_on}
use Rattle.jmap_server.proofs.Served.{all_served, none_served}
use Rattle.jmap_server.proofs.Workers.{none_left}
use Rattle.jmap_server.proofs.lines.serve_scoped.Goals as goal

pub returns-clause-told : goal.returns-clause-told
returns-clause-told g c =
    let told = g.W.World.told in
    let gone = c.take_lines-done.ensures.told in
    let back = c.return_lines.ensures.told in (
      gone.0 ++ back.0,
      gone.1 ++ back.1,
      front_on c.args.front.now.roots c.take_lines-done.new.front.roots c.return_lines.new.front.roots gone.1 back.1 gone.2 back.2,
      told_on (told c.args.world.now) (told c.take_lines-done.new.world) (told c.return_lines.new.world) gone.0 back.0 gone.3 back.3,
      all_served (sight_of g.W.Line.Link.left g.W.Line.Link.held g.W.Line.Link.read_faults g.W.Line.Link.put_faults g.W.Time.Clock.times g.W.Keep.Keeper.kept g.W.Keep.Keeper.append_faults) g.R.Rules.plan_of c.args.hall.now c.args.users.now c.args.count (map taken_by c.in-Ok.workers.items) (map taken_by c.take_lines-done.new.workers.items) (map taken_by c.return_lines.new.workers.items) gone.1 back.1 gone.0 back.0 c.take_lines-done.result (ap (map taken_by) c.in-Ok.ensures.items)
          (none_left c.return_lines.new.workers.items (omega (arith, c.return_lines.ensures.few, c.return_lines.new.workers.ok.0))) gone.4 back.4,
    )

pub returns-then-count-eq0-clause-told : goal.returns-then-count-eq0-clause-told
returns-then-count-eq0-clause-told g c = (
  [],
  [],
  front_still c.args.front.now.roots c.args.front.now.roots refl,
  told_none (g.W.World.told c.args.world.now) (g.W.World.told c.args.world.now) refl,
  none_served (sight_of g.W.Line.Link.left g.W.Line.Link.held g.W.Line.Link.read_faults g.W.Line.Link.put_faults g.W.Time.Clock.times g.W.Keep.Keeper.kept g.W.Keep.Keeper.append_faults) g.R.Rules.plan_of c.args.hall.now c.args.users.now c.args.count (Ok _) (omega (arith, c.if-count-eq0.true)),
)

pub returns-in_default-clause-told : goal.returns-in_default-clause-told
returns-in_default-clause-told g c = (
  [],
  [],
  front_still c.args.front.now.roots c.args.front.now.roots refl,
  told_none (g.W.World.told c.args.world.now) (g.W.World.told c.args.world.now) refl,
  none_served (sight_of g.W.Line.Link.left g.W.Line.Link.held g.W.Line.Link.read_faults g.W.Line.Link.put_faults g.W.Time.Clock.times g.W.Keep.Keeper.kept g.W.Keep.Keeper.append_faults) g.R.Rules.plan_of c.args.hall.now c.args.users.now c.args.count (Err _) (omega arith),
)

pub returns-clause-openings : goal.returns-clause-openings
returns-clause-openings g c = c.return_lines.ensures.openings ∙ c.take_lines-done.ensures.openings
