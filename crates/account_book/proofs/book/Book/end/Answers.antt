use Rattle.std.proofs.Common.{subst}
use Rattle.account_book.specs.Books.{IsValidFrom}
use Rattle.account_book.specs.Keeping.{IsKept}
use Rattle.account_book.proofs.Reopening.{ready_again}
use Rattle.account_book.proofs.book.Book.end.Goals as goal

pub returns-clause-kept : goal.returns-clause-kept
returns-clause-kept g c =
    subst (λ v. IsKept (g.R.Rules.is_whole v.rules) (g.K.Keeper.kept v.opened_over) (g.K.Keeper.image v.opened_over) (g.K.Keeper.kept c.self.inside.keeper) (g.K.Keeper.image c.self.inside.keeper) v.history) c.self.view_is c.self.invariant.kept

pub returns-clause-ready : goal.returns-clause-ready
returns-clause-ready g c =
    let laws = g.met.R.Rules g.world.𝓛 g.world.𝓜 g.world.𝓡 ((λ s x. x), (λ x. x), (λ x. x), λ x. x) in
    let v = c.args.self in
    let kept : IsKept (g.R.Rules.is_whole v.rules) (g.K.Keeper.kept v.opened_over) (g.K.Keeper.image v.opened_over) (g.K.Keeper.kept c.self.inside.keeper) (g.K.Keeper.image c.self.inside.keeper) v.history =
    subst (λ v. IsKept (g.R.Rules.is_whole v.rules) (g.K.Keeper.kept v.opened_over) (g.K.Keeper.image v.opened_over) (g.K.Keeper.kept c.self.inside.keeper) (g.K.Keeper.image c.self.inside.keeper) v.history) c.self.view_is c.self.invariant.kept in
    λ ready. ready_again (g.R.Rules.is_whole v.rules) (laws.ignores v.rules) (g.K.Keeper.kept c.self.inside.keeper) (g.K.Keeper.image c.self.inside.keeper) v.history kept.content (kept.left ready)

pub returns-clause-always : goal.returns-clause-always
returns-clause-always g c = subst (λ v. IsValidFrom (g.R.Rules.is_whole v.rules) v.before v.history) c.self.view_is c.self.invariant.always
