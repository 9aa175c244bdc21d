use Rattle.std.proofs.Common.{refl, inl, [], ◌∷◌}
use Rattle.account_hall.proofs.Closing.{front_still}
use Rattle.jmap_server.specs.Deeds.{Listened}
use Rattle.jmap_server.specs.Lines.{sight_of}
use Rattle.jmap_server.proofs.Told.{told_on}
use Rattle.jmap_server.proofs.Runs.{port_served}
use Rattle.jmap_server.proofs.server.serve_port.Goals as goal

pub returns-in-Ok-clause-told : goal.returns-in-Ok-clause-told
returns-in-Ok-clause-told g c =
    let told = g.W.World.told in
    let served = c.serve_lines.ensures.told in (
      Listened c.args.port ∷ served.0,
      served.1,
      served.2,
      told_on (told c.args.world.now) (told c.listen.new.self) (told c.serve_lines.new.world) (Listened c.args.port ∷ []) served.0 c.in-Ok.ensures.told served.3,
      port_served (sight_of g.W.Line.Link.left g.W.Line.Link.held g.W.Line.Link.read_faults g.W.Line.Link.put_faults g.W.Time.Clock.times g.W.Keep.Keeper.kept g.W.Keep.Keeper.append_faults) g.R.Rules.plan_of c.args.hall.now c.args.users.now served.1 c.args.port c.args.count served.0 c.serve_lines.result served.4,
    )

pub returns-in-Err-clause-told : goal.returns-in-Err-clause-told
returns-in-Err-clause-told g c = ([], [], front_still c.args.front.now.roots c.args.front.now.roots refl, c.in-Err.ensures.told, inl (refl, refl))
