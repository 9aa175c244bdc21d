use Rattle.account_book.proofs.Reopening.{left_undamaged, opened_again}
use Rattle.account_book.proofs.laws.kept_accounts_open_again.Goals as goal

pub returns-clause-undamaged : goal.returns-clause-undamaged
returns-clause-undamaged g c =
    let laws = g.met.R.Rules g.world.𝓛 g.world.𝓜 g.world.𝓡 ((λ s x. x), (λ x. x), (λ x. x), λ x. x) in
    left_undamaged (g.R.Rules.is_whole c.args.rules.now) (laws.ignores c.args.rules.now) (laws.sound c.args.rules.now)

pub returns-clause-same : goal.returns-clause-same
returns-clause-same g c = opened_again
