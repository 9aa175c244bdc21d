use Rattle.std.proofs.Common.{◌≡◌, subst, arith}
use Rattle.account_book.specs.Books.{IsValidFrom}
use Rattle.account_book.specs.Keeping.{IsKept}
use Rattle.account_book.specs.Passes.{named_since, numbered_since}
use Rattle.account_book.proofs.Passing.{all_named_since}
use Rattle.account_book.proofs.book.Book.keeps.Goals as goal

pub returns-clause-kept : goal.returns-clause-kept
returns-clause-kept g c =
    subst (λ v. IsKept (g.R.Rules.is_whole v.rules) (g.K.Keeper.kept v.opened_over) (g.K.Keeper.image v.opened_over) (g.K.Keeper.kept v.keeper) (g.K.Keeper.image v.keeper) v.history) c.self.view_is c.self.invariant.kept

pub returns-clause-passes : goal.returns-clause-passes
returns-clause-passes g c =
    subst (λ v. named_since v.opened (numbered_since v.opened v.since) ≡ v.since) c.self.view_is
    (all_named_since c.self.inside.account.history c.self.inside.before c.self.inside.greatest (omega arith) c.self.invariant.greatest_is c.self.invariant.passes)

pub returns-clause-always : goal.returns-clause-always
returns-clause-always g c = subst (λ v. IsValidFrom (g.R.Rules.is_whole v.rules) v.before v.history) c.self.view_is c.self.invariant.always
