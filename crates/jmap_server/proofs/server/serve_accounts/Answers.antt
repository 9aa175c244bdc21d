use Rattle.std.proofs.Common.{ap, subst, refl, inl, reverse, map, length, arith, List}
use Rattle.std.proofs.lemmas.List.{length-map}
use Rattle.account_hall.specs.declared.named_account.Named.{Named}
use Rattle.jmap_server.specs.Deeds.{GotKeeper, IsTold}
use Rattle.jmap_server.specs.Openings.{keepers_of, openings_of}
use Rattle.jmap_server.specs.Lines.{sight_of}
use Rattle.jmap_server.specs.Serving.{name_of}
use Rattle.jmap_server.proofs.Runs.{built_names, open_served}
use Rattle.jmap_server.proofs.server.serve_accounts.Goals as goal

pub serve_hall-requires-clause-accounts : goal.serve_hall-requires-clause-accounts
serve_hall-requires-clause-accounts g c =
    let names = ap length (built_names c.args.accounts.items c.in-Ok.hall c.in-Ok.front.roots c.in-Ok.ensures.built) in
    omega (arith, ap length c.requires.accounts, names, length-map c.in-Ok.hall name_of)

pub returns-in-Ok-clause-told : goal.returns-in-Ok-clause-told
returns-in-Ok-clause-told g c =
    let served = c.serve_hall.ensures.told in (
      served.0,
      served.1,
      open_served (sight_of g.W.Line.Link.left g.W.Line.Link.held g.W.Line.Link.read_faults g.W.Line.Link.put_faults g.W.Time.Clock.times g.W.Keep.Keeper.kept g.W.Keep.Keeper.append_faults) g.R.Rules.plan_of c.args.accounts.items c.args.users.now c.in-Ok.hall c.in-Ok.front.roots c.args.port c.args.count served.0 c.serve_hall.result
          c.in-Ok.ensures.built served.2,
    )

pub returns-in-Err-clause-told : goal.returns-in-Err-clause-told
returns-in-Err-clause-told g c =
    let same = c.in-Err.ensures.err in (
      map GotKeeper (reverse (keepers_of (openings_of c.args.accounts.items))),
      subst (λ (xs : List (Named g.row.W-Keep.Denot g.row.R.Denot)). IsTold (g.W.World.told c.args.world.now) (g.W.World.told c.close_accounts.new.world) (map GotKeeper (reverse (keepers_of (openings_of xs))))) same c.close_accounts.ensures.told,
      inl (refl, refl),
    )
