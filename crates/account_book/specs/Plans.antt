-- What calls may plan.
use Rattle.std.specs.Prelude.{◌≡◌, ℕ, [], ⊤}
use Rattle.jm_base.specs.declared.utc_dates.TheConstants.{LAST_TIMESTAMP}
use Rattle.account_book.specs.Replies.{IsIdle}
use Rattle.account_book.specs.declared.asks.Ask.{Ask}
use Rattle.account_book.specs.declared.asks.Ask.TheVariants.{Method, Upload, Blob, Fetch, Place, States}
use Rattle.account_book.specs.declared.plans.Plan.{Plan}

-- the last second of the year 9999, in seconds since the beginning of 1970
abbrev pub last_moment : ℕ
last_moment = LAST_TIMESTAMP

-- What may be planned for what is asked: what only reads changes nothing, and an upload brings a
-- blob and no edits.
abbrev pub IsPlanFor : Ask → Plan → Type 0
IsPlanFor (Upload bytes) p = p.edits ≡ []
IsPlanFor (Blob name) p = IsIdle p
IsPlanFor (Fetch call) p = IsIdle p
IsPlanFor States p = IsIdle p
IsPlanFor (Method call) p = ⊤
IsPlanFor (Place call carried) p = ⊤
