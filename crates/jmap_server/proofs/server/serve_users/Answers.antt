use Rattle.account_hall.specs.declared.named_account.Named.{Named}
use Rattle.std.proofs.Common.{Global, Vec, subst, ◌++◌, ◌∙◌, List, ℕ, Ok, Err}
use Rattle.jmap_server.specs.Lines.{sight_of}
use Rattle.jmap_server.specs.Openings.{openings_of}
use Rattle.jmap_server.specs.Serving.{HasOpenedAll}
use Rattle.jmap_server.proofs.Told.{told_on}
use Rattle.jmap_server.proofs.Openings.{names_opened}
use Rattle.jmap_server.proofs.Runs.{users_refused, users_served}
use Rattle.jmap_server.proofs.server.serve_users.Goals as goal

pub returns-in-Ok-clause-told : goal.returns-in-Ok-clause-told
returns-in-Ok-clause-told g c =
    let told = g.W.World.told in
    let whole = (g.F.Rules.Rules.is_whole (g.F.RulesSource.rules c.args.source.now)) in
    let opened = c.in-Ok.ensures.told in
    let served = c.serve_accounts.ensures.told in (
      opened.0 ++ served.0,
      told_on (told c.args.world.now) (told c.open_accounts.new.world) (told c.serve_accounts.new.world) opened.0 served.0 opened.1 served.1,
      users_served (sight_of g.W.Line.Link.left g.W.Line.Link.held g.W.Line.Link.read_faults g.W.Line.Link.put_faults g.W.Time.Clock.times g.W.Keep.Keeper.kept g.W.Keep.Keeper.append_faults) g.F.Rules.Rules.plan_of whole c.args.users.now c.args.folder.now c.args.port c.args.count c.in-Ok.accounts (λ (v : Vec (Named g.row.W-Keep.Denot g.row.F-Rules.Denot) Global). openings_of v.items) opened.0 served.0 c.serve_accounts.result
          (names_opened c.in-Ok.accounts.items ∙ (c.in-Ok.ensures.names ∙ c.account_ids.ensures))
          (subst (λ (ids : List (List ℕ)). HasOpenedAll g.W.Keep.Keeper.kept whole c.args.folder.now ids (λ (v : Vec (Named g.row.W-Keep.Denot g.row.F-Rules.Denot) Global). openings_of v.items) opened.0 (Ok c.in-Ok.accounts)) c.account_ids.ensures opened.2) served.2,
    )

pub returns-in-Err-clause-told : goal.returns-in-Err-clause-told
returns-in-Err-clause-told g c =
    let whole = (g.F.Rules.Rules.is_whole (g.F.RulesSource.rules c.args.source.now)) in
    let opened = c.in-Err.ensures.told in (
      opened.0,
      opened.1,
      users_refused (sight_of g.W.Line.Link.left g.W.Line.Link.held g.W.Line.Link.read_faults g.W.Line.Link.put_faults g.W.Time.Clock.times g.W.Keep.Keeper.kept g.W.Keep.Keeper.append_faults) g.F.Rules.Rules.plan_of whole c.args.users.now c.args.folder.now c.args.port c.args.count (λ (v : Vec (Named g.row.W-Keep.Denot g.row.F-Rules.Denot) Global). openings_of v.items) opened.0 c.in-Err.fault
          (subst (λ (ids : List (List ℕ)). HasOpenedAll g.W.Keep.Keeper.kept whole c.args.folder.now ids (λ (v : Vec (Named g.row.W-Keep.Denot g.row.F-Rules.Denot) Global). openings_of v.items) opened.0 (Err c.in-Err.fault)) c.account_ids.ensures opened.2),
    )
