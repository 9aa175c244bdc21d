-- Sessions of a hall. A session has a pass for each account, which says what it has seen, and a
-- trail: the points of its calls, in order.
use Rattle.std.specs.Prelude.{◌≡◌, ℕ, ◌+◌, ◌-◌, ◌≤◌, ◌==◌, Bool, false, ◌&&◌, if◌then◌else◌, List, [], ◌∷◌, ◌++◌, Some, None, map, take, drop, length, slice_get, slice_set, ⊤}
use Rattle.std.specs.List.{AllByRecursion}
use Rattle.mail_records.specs.Histories.{Entry, History, entry_stamp}
use Rattle.record_codec.specs.Sizes.{edit_bytes}
use Rattle.account_book.specs.Replies.{IsReply}
use Rattle.account_book.specs.declared.asks.Call.{Call}
use Rattle.account_book.specs.declared.plans.Out.{Out}
use Rattle.account_book.specs.declared.plans.Plan.{Plan}
use Rattle.account_book.specs.declared.plans.Point.{Point}
use Rattle.account_lock.specs.Entries.{StartsWith, under}
use Rattle.account_lock.specs.Views.{PassFacts, begun_within}
use Rattle.account_hall.specs.Calls.{HasLooked}
use Rattle.account_hall.specs.Histories.{seen_count, seen_history, stamp_of}

-- what contracts see of a session
pub record SessionView : Type 0 where
  pub passes : List PassFacts
  pub trail : List Point

-- the session with these passes and this trail
abbrev pub session_of : List PassFacts → List Point → SessionView
session_of passes trail = record { passes = passes; trail = trail }

-- the point is one of this account at which the history gained an entry
abbrev pub is_entered : ℕ → Point → Bool
is_entered account p = (p.account == account) && (p.after == p.before + 1)

-- The entries that an account gained at the points of a trail. `base` is how many entries it opened
-- with, and `seen` has those since.
abbrev pub entries_at : ℕ → ℕ → List Entry → List Point → List Entry
entries_at account base seen [] = []
entries_at account base seen (p ∷ ps) =
    (if is_entered account p then take 1 (drop (p.before - base) seen) else [])
    ++ entries_at account base seen ps

-- the numbers of these points in the trail; that of the first is n
abbrev pub numbers_at : ℕ → ℕ → List Point → List ℕ
numbers_at account n [] = []
numbers_at account n (p ∷ ps) =
    (if is_entered account p then n ∷ [] else []) ++ numbers_at account (n + 1) ps

-- the serial of an entry
abbrev pub entry_serial : Entry → ℕ
entry_serial e = (entry_stamp e).serial

-- a point is one of the history that was seen, if it is of this account
abbrev pub IsWithinSeen : ℕ → PassFacts → Point → Type 0
IsWithinSeen account k p =
    p.account ≡ account → (length k.opening.entries ≤ p.before) × (p.before ≤ p.after)
    × (p.after ≤ seen_count k)

-- A session is in order on one account: its points are of the history that it has seen. Its entries
-- are exactly those of its points at which the history gained one, each once, and the serial of
-- each is the number of its point in the trail, from 1 on.
pub record IsInOrder (account : ℕ) (k : PassFacts) (trail : List Point) : Type 0 where
  pub within : AllByRecursion (IsWithinSeen account k) trail
  pub own : k.own ≡ entries_at account (length k.opening.entries) k.seen trail
  pub serials : map entry_serial k.own ≡ numbers_at account 1 trail

-- a point of the same account is not before the other ends
abbrev pub IsAfter : Point → Point → Type 0
IsAfter p later = later.account ≡ p.account → p.after ≤ later.before

-- of two points of one account the later one begins where the earlier one ends, or after it
abbrev pub AreInOrder : List Point → Type 0
AreInOrder [] = ⊤
AreInOrder (p ∷ ps) = AllByRecursion (IsAfter p) ps × AreInOrder ps

-- a pass of a session takes turns, has none now, and no other pass was joined with it
pub record IsFree (k : PassFacts) : Type 0 where
  pub root : k.root ≡ false
  pub holds : k.holds ≡ false
  pub ended : k.ended ≡ []

-- what holds of each session: it is in order on each account, and so is its trail
pub record IsSession (s : SessionView) : Type 0 where
  pub free : AllByRecursion IsFree s.passes
  pub trail : AreInOrder s.trail
  pub each : (account : ℕ) (k : PassFacts) → slice_get s.passes account ≡ Some k
      → IsInOrder account k s.trail

-- ---- what a call does to a session

-- A call of a session on an account is answered so. The trail has one point more. That begins at
-- or after the entries that the session had seen, and ends with those that it has seen now. The
-- answer is the reply at the point, under the session's pass and the number of the point. What the
-- session has seen of other accounts is as before. Of its turns nothing is said here.
pub record IsCall (plan : History → Call → ℕ → Plan) (account : ℕ) (call : Call) (moment : ℕ)
    (old new : SessionView) (out : Out) : Type 0 where
  pub pass : PassFacts
  pub pass' : PassFacts
  pub point : Point
  pub there : slice_get old.passes account ≡ Some pass
  pub passes : new.passes ≡ slice_set old.passes account pass'
  pub same : pass' ≡ record pass { last = pass'.last; seen = pass'.seen; own = pass'.own }
  pub seen : StartsWith pass'.seen pass.seen
  pub own : pass'.own ≡ under pass'.name pass'.seen
  pub trail : new.trail ≡ old.trail ++ point ∷ []
  pub account_is : point.account ≡ account
  pub moment_is : point.moment ≡ moment
  pub before : seen_count pass ≤ point.before
  pub after : point.after ≡ seen_count pass'
  pub reply : IsReply plan edit_bytes (seen_history pass') point call
      (stamp_of pass' (length new.trail)) out

-- A call that ran out of memory: the session may have seen more of the account. It gave no entry,
-- and its trail is as before.
pub record IsLook (account : ℕ) (old new : SessionView) : Type 0 where
  pub pass : PassFacts
  pub pass' : PassFacts
  pub there : slice_get old.passes account ≡ Some pass
  pub passes : new.passes ≡ slice_set old.passes account pass'
  pub looked : HasLooked pass pass'
  pub trail : new.trail ≡ old.trail

-- the session had one turn more at the account, and no other one
pub record HasHadTurn (account : ℕ) (old new : SessionView) : Type 0 where
  pub pass : PassFacts
  pub pass' : PassFacts
  pub there : slice_get old.passes account ≡ Some pass
  pub passes : new.passes ≡ slice_set old.passes account pass'
  pub once : pass'.last ≡ begun_within None pass.last
