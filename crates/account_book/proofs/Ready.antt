-- Keepers over which an account can be opened.
use Rattle.std.specs.Prelude.{◌≡◌, Some}
use Rattle.std.proofs.Common.{inl, Option}
use Rattle.keep_port.specs.declared.kept.Kept.{Kept}
use Rattle.mail_records.specs.Histories.{History}
use Rattle.account_book.specs.Keeping.{IsReady}

-- one of which a crash leaves nothing but its content
pub ready_clean : (whole : History → Type 0) (known : Option Kept) (image : Kept → Type 0) → ((k : Kept) → image k → known ≡ Some k) → IsReady whole known image
ready_clean whole known image clean h valid stands left i = inl (stands left (clean left i))
