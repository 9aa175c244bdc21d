use Rattle.account_book.proofs.Starting.{loaded_fault, loaded_same, overfull_fault}
use Rattle.account_book.proofs.start.finish_loading.Goals as goal

pub returns-in-Fitting-clause-same : goal.returns-in-Fitting-clause-same
returns-in-Fitting-clause-same g c = loaded_same c.check_account.result c.in-Fitting.account c.args.loading c.in-Fitting.is c.check_account.ensures.same

pub returns-in-Fitting-clause-err : goal.returns-in-Fitting-clause-err
returns-in-Fitting-clause-err g c = loaded_fault (g.R.Rules.is_whole c.args.rules.now) c.args.last c.check_account.result c.in-Fitting.account c.args.loading c.in-Fitting.is c.check_account.ensures.err

pub returns-clause-err : goal.returns-clause-err
returns-clause-err g c =
    let laws = g.met.R.Rules g.world.𝓛 g.world.𝓜 g.world.𝓡 ((λ s x. x), (λ x. x), (λ x. x), λ x. x) in
    overfull_fault (g.R.Rules.is_whole c.args.rules.now) (laws.blobs c.args.rules.now) c.args.last c.in-Overfull.field-0 c.args.loading c.in-Overfull.is
