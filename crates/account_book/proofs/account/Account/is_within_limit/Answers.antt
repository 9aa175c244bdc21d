use Rattle.std.proofs.Common.{arith, subst}
use Rattle.account_book.specs.Accounts.{IsBounded}
use Rattle.account_book.proofs.Keeping.{IsBounded-within}
use Rattle.account_book.proofs.account.Account.is_within_limit.Goals as goal

pub returns-clause-bounded : goal.returns-clause-bounded
returns-clause-bounded c =
    λ yes. subst (λ v. IsBounded v.history) c.self.view_is (IsBounded-within _ _ _ _ _ _ _ _ c.self.invariant (omega (arith, c.self.invariant.bytes_are)))
