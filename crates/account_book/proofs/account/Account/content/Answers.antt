use Rattle.account_book.proofs.Keeping.{tables_of, numbered_of}
use Rattle.account_book.proofs.account.Account.content.Goals as goal

pub returns-clause-tables : goal.returns-clause-tables
returns-clause-tables c = tables_of _ _ _ _ _ _ _ _ c.self.invariant

pub returns-clause-numbered : goal.returns-clause-numbered
returns-clause-numbered c = numbered_of _ _ _ _ _ _ _ _ c.self.invariant
