-- Function values that perform calls on the accounts of a hall, and copies between them.
use Rattle.std.specs.Prelude.{◌≢◌, ℕ, ◌^◌, ◌<◌, ◌≤◌, List, length, Result, Ok, Err}
use Rattle.std.specs.declared.alloc.Global.{Global}
use denote.Ref.{Bor, MutBor}
use Rattle.jm_base.specs.declared.memory.NoMemory.{NoMemory}
use Rattle.jm_base.specs.declared.utc_dates.TheConstants.{LAST_TIMESTAMP}
use Rattle.account_book.specs.declared.asks.Call.{Call}
use Rattle.account_book.specs.declared.plans.Out.{Out}
use Rattle.account_hall.specs.Halls.{AreOf, RoomView}
use Rattle.account_hall.specs.Sessions.{IsLook, SessionView}
use Rattle.account_hall.specs.declared.copies.CopyCall.{CopyCall}
use Rattle.hall_port.specs.Steps.{Calls}

-- a session of the hall may ask the account with this number, at this timestamp
pub record MayAsk (rooms : List RoomView) (session : SessionView) (account time : ℕ) : Type 0 where
  pub hall : AreOf rooms session.passes
  pub account_in : account < length rooms
  pub in_range : time ≤ LAST_TIMESTAMP

-- a session of the hall may ask for this copy, at this timestamp
pub record MayCopy (rooms : List RoomView) (session : SessionView) (copy : CopyCall) (time : ℕ)
    : Type 0 where
  pub hall : AreOf rooms session.passes
  pub from_in : copy.from < length rooms
  pub to_in : copy.to < length rooms
  pub apart : copy.from ≢ copy.to
  pub in_range : time ≤ LAST_TIMESTAMP

-- Whoever may ask is answered by one of these calls. If memory runs out, the session may have seen
-- more of the account.
pub record AsksHall (calls : Calls) (rooms : List RoomView)
    (pre : Global → MutBor SessionView → ℕ → Bor Call → ℕ → Type 0)
    (post : Global → MutBor SessionView → ℕ → Bor Call → ℕ → Result Out NoMemory
    → MutBor SessionView → Type 0) : Type 0 where
  pub callable : (alloc : Global) (old : MutBor SessionView) (account : ℕ) (call : Bor Call)
      (time : ℕ) → MayAsk rooms old.now account time → pre alloc old account call time
  pub asked : (alloc : Global) (old new : MutBor SessionView) (account : ℕ) (call : Bor Call)
      (time : ℕ) (answer : Out) → account < 2 ^ 64 → MayAsk rooms old.now account time
      → post alloc old account call time (Ok answer) new
      → calls.calls account call.now time old.now new.now answer
  pub stopped : (alloc : Global) (old new : MutBor SessionView) (account : ℕ) (call : Bor Call)
      (time : ℕ) (refused : NoMemory) → account < 2 ^ 64 → MayAsk rooms old.now account time
      → post alloc old account call time (Err refused) new → IsLook account old.now new.now
  pub hall : (alloc : Global) (old new : MutBor SessionView) (account : ℕ) (call : Bor Call)
      (time : ℕ) (answer : Result Out NoMemory) → account < 2 ^ 64
      → MayAsk rooms old.now account time → post alloc old account call time answer new
      → AreOf rooms new.now.passes

-- Whoever may ask for a copy is answered by one of these copies, or it stops like one of them.
pub record CopiesHall (calls : Calls) (rooms : List RoomView)
    (pre : Global → MutBor SessionView → CopyCall → ℕ → Type 0)
    (post : Global → MutBor SessionView → CopyCall → ℕ → Result Out NoMemory → MutBor SessionView
    → Type 0) : Type 0 where
  pub callable : (alloc : Global) (old : MutBor SessionView) (copy : CopyCall) (time : ℕ)
      → MayCopy rooms old.now copy time → pre alloc old copy time
  pub copied : (alloc : Global) (old new : MutBor SessionView) (copy : CopyCall) (time : ℕ)
      (answer : Out) → MayCopy rooms old.now copy time → post alloc old copy time (Ok answer) new
      → calls.copies copy time old.now new.now answer
  pub stopped : (alloc : Global) (old new : MutBor SessionView) (copy : CopyCall) (time : ℕ)
      (refused : NoMemory) → MayCopy rooms old.now copy time
      → post alloc old copy time (Err refused) new → calls.copy_stops copy time old.now new.now
  pub hall : (alloc : Global) (old new : MutBor SessionView) (copy : CopyCall) (time : ℕ)
      (answer : Result Out NoMemory) → MayCopy rooms old.now copy time
      → post alloc old copy time answer new → AreOf rooms new.now.passes
