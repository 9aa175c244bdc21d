use Rattle.std.proofs.Common.{subst}
use Rattle.mail_records.specs.Edits.{AllFit}
use Rattle.mail_records.specs.Histories.{edits_of}
use Rattle.account_book.proofs.account.Account.has_fitting_edits.Goals as goal

pub returns : goal.returns
returns c = subst (λ v. AllFit v.history.base (edits_of v.history)) c.self.view_is c.self.invariant.fits
