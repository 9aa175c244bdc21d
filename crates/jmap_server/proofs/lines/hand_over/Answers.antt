use Rattle.std.proofs.Common.{refl, [], ◌∷◌, ◌∙◌}
use Rattle.jmap_server.specs.Lines.{sight_of}
use Rattle.account_hall.proofs.Closing.{front_still}
use Rattle.jmap_server.proofs.Workers.{let_out_served}
use Rattle.jmap_server.proofs.lines.hand_over.Goals as goal

pub returns-in-Ok-clause-handed : goal.returns-in-Ok-clause-handed
returns-in-Ok-clause-handed g c = ([], (_, c.args.passes, c.in-Ok.ensures.started, c.requires.openings, c.push_reserved.ensures.items, refl), front_still c.args.front.now.roots c.args.front.now.roots refl)

pub returns-in-Err-clause-handed : goal.returns-in-Err-clause-handed
returns-in-Err-clause-handed g c =
    let out = c.let_out.ensures in
    let served = c.in-Err.ensures.served in (
      c.in-Err.done.passes ∷ [],
      (
        let_out_served (sight_of g.L.Link.left g.L.Link.held g.L.Link.read_faults g.L.Link.put_faults g.C.Clock.times g.K.Keeper.kept g.K.Keeper.append_faults) g.R.Rules.plan_of c.args.hall.now c.args.users.now c.args.passes c.args.line c.args.clock c.in-Err.done c.let_out.result served out.line out.served out.trail out.points out.in_order,
        refl,
      ),
      out.heard (served.openings ∙ c.requires.openings),
    )
