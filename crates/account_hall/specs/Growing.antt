-- What a session has later: all that it had, and perhaps more.
use Rattle.std.specs.Prelude.{◌≡◌, ℕ, List, ◌++◌, Some, slice_get}
use Rattle.account_book.specs.declared.plans.Point.{Point}
use Rattle.account_lock.specs.Entries.{StartsWith}
use Rattle.account_lock.specs.Views.{PassFacts}
use Rattle.account_hall.specs.Sessions.{SessionView}

-- A pass as it is later: it has its name, of the account it has seen what it had seen, and perhaps
-- more after that.
pub record IsLater (k k' : PassFacts) : Type 0 where
  pub name_is : k'.name ≡ k.name
  pub opening_is : k'.opening ≡ k.opening
  pub seen : StartsWith k'.seen k.seen

-- A session as it is later: its trail begins with what it was, and so does what it has seen of each
-- account.
pub record HasGrown (s s' : SessionView) : Type 0 where
  pub added : List Point
  pub trail : s'.trail ≡ s.trail ++ added
  pub passes : (account : ℕ) (k : PassFacts) → slice_get s.passes account ≡ Some k
      → (k' : PassFacts) × (slice_get s'.passes account ≡ Some k') × IsLater k k'
