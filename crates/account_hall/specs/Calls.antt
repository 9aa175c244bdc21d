-- What a call on one account does, and what a session has seen of the account after it.
use Rattle.std.specs.Prelude.{◌≡◌, ℕ, List}
use Rattle.mail_records.specs.Histories.{Entry, History}
use Rattle.record_codec.specs.Sizes.{edit_bytes}
use Rattle.account_book.specs.Replies.{IsReply}
use Rattle.account_book.specs.declared.asks.Call.{Call}
use Rattle.account_book.specs.declared.plans.Out.{Out}
use Rattle.account_book.specs.declared.plans.Plan.{Plan}
use Rattle.account_book.specs.declared.plans.Point.{Point}
use Rattle.account_lock.specs.Entries.{StartsWith, under}
use Rattle.account_lock.specs.Views.{PassFacts}
use Rattle.account_hall.specs.Histories.{GainsAtMostOne, count_with, history_with, stamp_from}

-- a point of an account's history
abbrev pub point_at : ℕ → ℕ → ℕ → ℕ → Point
point_at account before after moment =
    record { account = account; before = before; after = after; moment = moment }

-- A call with this number and serial on an account that opened with a history took its entries
-- since from `old` to `new`, and is answered so.
pub record IsPerformed (plan : History → Call → ℕ → Plan) (opened : History)
    (old new : List Entry) (number serial : ℕ) (call : Call) (moment : ℕ)
    (before after : ℕ) (out : Out) : Type 0 where
  pub gains : GainsAtMostOne number serial before after old new
  pub before_is : before ≡ count_with opened old
  pub after_is : after ≡ count_with opened new
  pub reply : (account : ℕ) → IsReply plan edit_bytes (history_with opened new)
      (point_at account before after moment) call (stamp_from opened number serial) out

-- A session had seen what k says of an account, and has seen what k' says after this call. The
-- entries that it found are `found`: they begin with those that it had seen, and of them its own
-- were those that it knew. Of its turns nothing is said here.
pub record IsCalled (plan : History → Call → ℕ → Plan) (k k' : PassFacts) (serial : ℕ)
    (call : Call) (moment : ℕ) (before after : ℕ) (out : Out) : Type 0 where
  pub found : List Entry
  pub seen : StartsWith found k.seen
  pub own_then : under k.name found ≡ k.own
  pub performed : IsPerformed plan k.opening found k'.seen k.name serial call moment before after
      out
  pub own : k'.own ≡ under k.name k'.seen
  pub same : k' ≡ record k { last = k'.last; seen = k'.seen; own = k'.own }

-- a session has seen more of an account, perhaps in a turn, and nothing else changed
pub record HasLooked (k k' : PassFacts) : Type 0 where
  pub seen : StartsWith k'.seen k.seen
  pub own : k'.own ≡ k.own
  pub same : k' ≡ record k { last = k'.last; seen = k'.seen }
