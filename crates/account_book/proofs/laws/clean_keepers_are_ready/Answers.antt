use Rattle.account_book.proofs.Ready.{ready_clean}
use Rattle.account_book.proofs.laws.clean_keepers_are_ready.Goals as goal

pub returns : goal.returns
returns g c = ready_clean (g.R.Rules.is_whole c.args.rules.now) (g.K.Keeper.kept c.args.keeper.now) (g.K.Keeper.image c.args.keeper.now)
