use Rattle.std.proofs.Common.{subst}
use Rattle.mail_records.specs.Histories.{IsFormedHistory}
use Rattle.account_book.proofs.account.Account.is_formed.Goals as goal

pub returns : goal.returns
returns c = subst (λ v. IsFormedHistory v.history) c.self.view_is c.self.invariant.formed
