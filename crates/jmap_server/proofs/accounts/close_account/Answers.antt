use Rattle.jmap_server.proofs.Openings.{kept_by}
use Rattle.jmap_server.proofs.accounts.close_account.Goals as goal

pub returns-clause-kept_by : goal.returns-clause-kept_by
returns-clause-kept_by g c =
    let b = c.args.account.book in
    let keeps = c.keeps.ensures in
    kept_by g.W.Keep.Keeper.kept g.W.Keep.Keeper.append_faults b.opened b.history b.since b.keeper keeps.kept.content keeps.parts keeps.passes keeps.refusals
