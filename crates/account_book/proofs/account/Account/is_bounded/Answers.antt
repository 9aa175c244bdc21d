use Rattle.std.proofs.Common.{◌≤◌, sym, subst}
use Rattle.mail_records.specs.Histories.{edits_of}
use Rattle.account_book.specs.Accounts.{IsBounded}
use Rattle.record_codec.specs.Sizes.{edit_bytes}
use Rattle.account_book.specs.declared.limits.TheConstants.{MAX_EDIT_BYTES}
use Rattle.account_book.proofs.Keeping.{IsBounded-within}
use Rattle.account_book.proofs.account.Account.is_bounded.Goals as goal

pub returns : goal.returns
returns c =
    subst (λ v. IsBounded v.history) c.self.view_is
    (IsBounded-within _ _ _ _ _ _ _ _ c.self.invariant (subst (λ v. edit_bytes (edits_of v.history) ≤ MAX_EDIT_BYTES) (sym c.self.view_is) c.requires))
