use Rattle.std.proofs.Common.{◌∙◌, subst}
use Rattle.std.specs.Result.{IfErr, IfOk}
use Rattle.jmap_server.specs.Deeds.{lent_for}
use Rattle.jmap_server.specs.Openings.{IsOpening, opening_of}
use Rattle.jmap_server.specs.Serving.{IsGivenBack}
use Rattle.jmap_server.proofs.Keepers.{opened_or_not}
use Rattle.jmap_server.proofs.accounts.open_account.Goals as goal

pub returns-in-Ok-keeper-clause-told : goal.returns-in-Ok-keeper-clause-told
returns-in-Ok-keeper-clause-told g c =
    let told = g.W.World.told in
    opened_or_not g.W.Keep.Keeper.kept (g.F.Rules.Rules.is_whole (g.F.RulesSource.rules c.args.source.now)) c.args.folder.now c.open_over.result (told c.args.world.now) (told c.keeper.new.self) (told c.open_over.new.world) c.in-Ok.name c.args.id.now c.in-Ok-keeper.keeper (c.in-Ok.ensures ∙ c.as_str.ensures)
    c.in-Ok-keeper.ensures.told c.open_over.ensures.told
    (subst (λ (r : g.row.F-Rules.Denot). IfOk c.open_over.result (λ account. IsOpening g.W.Keep.Keeper.kept (g.F.Rules.Rules.is_whole r) (lent_for c.in-Ok.name c.in-Ok-keeper.keeper) (opening_of account))) c.rules.ensures c.open_over.ensures.opened)
    (subst (λ (r : g.row.F-Rules.Denot). IfErr c.open_over.result (λ fault. IsGivenBack g.W.Keep.Keeper.kept (g.F.Rules.Rules.is_whole r) (told c.keeper.new.self) (told c.open_over.new.world) c.in-Ok.name c.in-Ok-keeper.keeper fault)) c.rules.ensures c.open_over.ensures.back)
