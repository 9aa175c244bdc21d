use Rattle.std.proofs.Common.{Global, Vec, refl, sym, ◌∙◌, reverse, [], ◌++◌, map}
use Rattle.account_hall.specs.declared.named_account.Named.{Named}
use Rattle.jmap_server.specs.Deeds.{GotKeeper}
use Rattle.jmap_server.specs.Openings.{keepers_of, openings_of}
use Rattle.jmap_server.proofs.Told.{told_none, told_on}
use Rattle.jmap_server.proofs.Keepers.{all_open, none_open, nothing_open}
use Rattle.jmap_server.proofs.Openings.{names_opened, opened_names}
use Rattle.jmap_server.proofs.accounts.open_accounts.Goals as goal

pub returns-in_default-clause-told : goal.returns-in_default-clause-told
returns-in_default-clause-told g c = (
  [],
  told_none (g.W.World.told c.args.world.now) (g.W.World.told c.args.world.now) refl,
  nothing_open g.W.Keep.Keeper.kept (g.F.Rules.Rules.is_whole (g.F.RulesSource.rules c.args.source.now)) c.args.folder.now {V = Vec (Named g.row.W-Keep.Denot g.row.F-Rules.Denot) Global} c.args.ids.now (λ (v : Vec (Named g.row.W-Keep.Denot g.row.F-Rules.Denot) Global). openings_of v.items),
)

pub returns-in-Ok-open_each-clause-told : goal.returns-in-Ok-open_each-clause-told
returns-in-Ok-open_each-clause-told g c =
    let opened = c.in-Ok-open_each.ensures.told in (
      opened.0,
      opened.1,
      all_open g.W.Keep.Keeper.kept (g.F.Rules.Rules.is_whole (g.F.RulesSource.rules c.args.source.now)) c.args.folder.now {V = Vec (Named g.row.W-Keep.Denot g.row.F-Rules.Denot) Global} _ c.open_each.new.accounts c.args.ids.now (λ (v : Vec (Named g.row.W-Keep.Denot g.row.F-Rules.Denot) Global). openings_of v.items) opened.0 opened.2,
    )

pub returns-in-Err-clause-told : goal.returns-in-Err-clause-told
returns-in-Err-clause-told g c =
    let told = g.W.World.told in
    let did = c.in-Err.ensures.told.0 in
    let openings = openings_of c.open_each.new.accounts.items in
    let closing = map GotKeeper (reverse (keepers_of openings)) in (
      did ++ closing,
      told_on (told c.args.world.now) (told c.open_each.new.world) (told c.close_accounts.new.world) did closing c.in-Err.ensures.told.1 c.close_accounts.ensures.told,
      none_open g.W.Keep.Keeper.kept (g.F.Rules.Rules.is_whole (g.F.RulesSource.rules c.args.source.now)) c.args.folder.now {V = Vec (Named g.row.W-Keep.Denot g.row.F-Rules.Denot) Global} c.args.ids.now openings (λ (v : Vec (Named g.row.W-Keep.Denot g.row.F-Rules.Denot) Global). openings_of v.items) did c.in-Err.fault c.in-Err.ensures.told.2,
    )

pub returns-in-Ok-open_each-clause-names : goal.returns-in-Ok-open_each-clause-names
returns-in-Ok-open_each-clause-names g c =
    let items = c.open_each.new.accounts.items in
    let opened = c.in-Ok-open_each.ensures.told.2 in
    sym (names_opened items) ∙ (opened_names g.W.Keep.Keeper.kept (g.F.Rules.Rules.is_whole (g.F.RulesSource.rules c.args.source.now)) opened.opened (openings_of items) opened.openings_are ∙ opened.outcome.0)
