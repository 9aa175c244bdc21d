-- What a hall's front knows of the sessions that left, and what the accounts have of them that are
-- taken out of the hall.
use Rattle.std.specs.Prelude.{◌≡◌, ◌≢◌, ℕ, ◌+◌, ◌==◌, cond, List, [], ◌∷◌, ◌++◌, length, Option, Some, None, slice_get, ⊤}
use Rattle.std.specs.List.{AllByRecursion}
use Rattle.mail_records.specs.Histories.{Entry, History}
use Rattle.record_codec.specs.Sizes.{edit_bytes}
use Rattle.account_book.specs.Replies.{IsReply}
use Rattle.account_book.specs.declared.asks.Call.{Call}
use Rattle.account_book.specs.declared.plans.Out.{Out}
use Rattle.account_book.specs.declared.plans.Plan.{Plan}
use Rattle.account_book.specs.declared.plans.Point.{Point}
use Rattle.account_lock.specs.Entries.{StartsWith, under}
use Rattle.account_lock.specs.Views.{Ended, PassFacts}
use Rattle.account_hall.specs.Histories.{count_with, history_with, stamp_from}
use Rattle.account_hall.specs.Sessions.{IsInOrder, IsSession, SessionView}

-- ---- the front

-- what the root of an account keeps of a session that left: its number, and the entries it gave
abbrev pub ended_of : Option PassFacts → List Ended
ended_of None = []
ended_of (Some k) = record { name = k.name; entries = k.own } ∷ []

-- the same of these sessions, in the order in which they left
abbrev pub ended_by : ℕ → List SessionView → List Ended
ended_by account [] = []
ended_by account (s ∷ ss) = ended_of (slice_get s.passes account) ++ ended_by account ss

-- a root has seen what the session has seen, and both know the account from the same opening
abbrev pub HasHeardOf : ℕ → PassFacts → SessionView → Type 0
HasHeardOf account root s =
    (k : PassFacts) → slice_get s.passes account ≡ Some k
    → (k.opening ≡ root.opening) × StartsWith root.seen k.seen

-- A root knows these sessions, which are in order: it has heard of each, and keeps the number and
-- the entries of each, and of no other.
pub record KnowsSessions (account : ℕ) (root : PassFacts) (sessions : List SessionView)
    : Type 0 where
  pub in_order : AllByRecursion IsSession sessions
  pub heard : AllByRecursion (HasHeardOf account root) sessions
  pub ended : root.ended ≡ ended_by account sessions

-- each root knows these sessions
abbrev pub FrontKnows : List PassFacts → List SessionView → Type 0
FrontKnows roots sessions =
    (account : ℕ) (root : PassFacts) → slice_get roots account ≡ Some root
    → KnowsSessions account root sessions

-- what an account opened with, as a pass of its lock knows it
abbrev pub opened_by : PassFacts → History
opened_by k = k.opening

-- whatever sessions the roots knew, they know these more
pub record FrontGoes (roots roots' : List PassFacts) (left : List SessionView) : Type 0 where
  pub knows : (sessions : List SessionView) → FrontKnows roots sessions
      → FrontKnows roots' (sessions ++ left)

-- ---- accounts that were taken out

-- the pass of a session that has seen all entries of an account
abbrev pub seeing : List Entry → PassFacts → PassFacts
seeing entries k = record k { seen = entries; own = under k.name entries }

-- An account opened with a history, and gained these entries. They begin with those that the
-- session has seen, and those under its number are the ones that it gave. Over all of them it is in
-- order as it was: its entries are exactly those of the points of its trail.
pub record IsPartOf (account : ℕ) (opening : History) (entries : List Entry) (k : PassFacts)
    (trail : List Point) : Type 0 where
  pub opening_is : k.opening ≡ opening
  pub seen : StartsWith entries k.seen
  pub own : under k.name entries ≡ k.own
  pub in_order : IsInOrder account (seeing entries k) trail

abbrev pub HasAllOf : ℕ → History → List Entry → SessionView → Type 0
HasAllOf account opening entries s =
    (k : PassFacts) → slice_get s.passes account ≡ Some k
    → IsPartOf account opening entries k s.trail

-- the session has another number on this account
abbrev pub HasOtherNumber : ℕ → ℕ → SessionView → Type 0
HasOtherNumber account n s =
    (k : PassFacts) → slice_get s.passes account ≡ Some k → k.name ≢ n

-- no later one of the sessions has the number of this one
abbrev pub HasOwnNumber : ℕ → SessionView → List SessionView → Type 0
HasOwnNumber account s later =
    (k : PassFacts) → slice_get s.passes account ≡ Some k
    → AllByRecursion (HasOtherNumber account k.name) later

-- each two of the sessions have different numbers on this account
abbrev pub HaveOwnNumbers : ℕ → List SessionView → Type 0
HaveOwnNumbers account [] = ⊤
HaveOwnNumbers account (s ∷ ss) = HasOwnNumber account s ss × HaveOwnNumbers account ss

-- The entries of an account since it was opened are exactly those of the points of these sessions:
-- each session has a number of its own, under which they are those of its points, and no entry is
-- under another number.
pub record AreEntriesOf (account : ℕ) (opening : History) (entries : List Entry)
    (sessions : List SessionView) : Type 0 where
  pub each : AllByRecursion (HasAllOf account opening entries) sessions
  pub numbers : HaveOwnNumbers account sessions
  pub no_others : (n : ℕ) → AllByRecursion (HasOtherNumber account n) sessions
      → under n entries ≡ []

-- ---- what the sessions were answered

-- A session was answered so to its call with this number, counted from 1: it is the reply to the
-- call at the point with that number in its trail, over the history of the account as it was taken
-- out, under the session's number there.
pub record IsAnsweredIn (plan : History → Call → ℕ → Plan) (account : ℕ) (opening : History)
    (entries : List Entry) (s : SessionView) (number : ℕ) (call : Call) (moment : ℕ) (out : Out)
    : Type 0 where
  pub pass : PassFacts
  pub there : slice_get s.passes account ≡ Some pass
  pub point : Point
  pub before : List Point
  pub after : List Point
  pub trail : s.trail ≡ before ++ point ∷ after
  pub number_is : number ≡ length before + 1
  pub account_is : point.account ≡ account
  pub moment_is : point.moment ≡ moment
  pub reply : IsReply plan edit_bytes (history_with opening entries) point call
      (stamp_from opening pass.name number) out

-- ---- a session that was alone

-- the points of this account go on from each other, and the first one from here
abbrev pub GoOn : ℕ → ℕ → List Point → Type 0
GoOn account low [] = ⊤
GoOn account low (p ∷ ps) =
    cond (p.account == account) ((p.before ≡ low) × GoOn account p.after ps) (GoOn account low ps)

-- where the last point of this account ends
abbrev pub end_of_points : ℕ → ℕ → List Point → ℕ
end_of_points account low [] = low
end_of_points account low (p ∷ ps) =
    end_of_points account (cond (p.account == account) p.after low) ps

-- The points of an account leave no gap: the first one begins at the account's opening, each next
-- one where the one before it ended, and the last one ends at the account's last entry.
pub record LeaveNoGap (account : ℕ) (opening : History) (entries : List Entry)
    (trail : List Point) : Type 0 where
  pub go_on : GoOn account (length opening.entries) trail
  pub ends : end_of_points account (length opening.entries) trail ≡ count_with opening entries
