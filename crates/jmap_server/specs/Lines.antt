-- What lines are served by sessions of a hall.
use Rattle.std.specs.Prelude.{◌≡◌, ◌⊎◌, ℕ, zero, suc, ◌+◌, List, [], ◌∷◌, ◌++◌, Option, length, ◌<◌, Result, Ok, Err}
use Rattle.keep_port.specs.declared.kept.Kept.{Kept}
use Rattle.server_users.specs.Configuration.{Configuration}
use Rattle.mail_records.specs.Histories.{History}
use Rattle.account_book.specs.declared.asks.Call.{Call}
use Rattle.account_book.specs.declared.plans.Plan.{Plan}
use Rattle.account_hall.specs.Halls.{AreOf, RoomView}
use Rattle.account_hall.specs.Sessions.{IsSession, SessionView}
use Rattle.jm_base.specs.declared.limits.TheConstants.{MAX_SESSIONS}
use Rattle.hall_port.specs.Serving.{ServesHall}
use Rattle.hall_port.specs.Steps.{calls_by}
use Rattle.jmap_http.specs.declared.served.Served.TheVariants.{NoMemory}
use Rattle.jmap_server.specs.declared.finished.Finished.{Finished}
use Rattle.jmap_server.specs.Deeds.{Deed, GaveLine, GaveClock, GaveGate, GotLine}

-- What contracts see of lines, clocks and keepers: the bytes of a line that are left to be read and
-- those that were written, how often reading and writing failed, the timestamps that a clock is
-- going to show, the content of a keeper, and how often it refused a commit.
pub record Sight (K L C : Type 0) : Type 0 where
  pub left : L → Option (List ℕ)
  pub held : L → Option (List ℕ)
  pub read_faults : L → ℕ
  pub put_faults : L → ℕ
  pub times : C → Option (List ℕ)
  pub kept : K → Option Kept
  pub append_faults : K → ℕ

abbrev pub sight_of : {K L C : Type 0} → (left held : L → Option (List ℕ)) → (reads puts : L → ℕ)
    → (C → Option (List ℕ)) → (K → Option Kept) → (K → ℕ) → Sight K L C
sight_of left held reads puts times kept append_faults = record {
  left = left;
  held = held;
  read_faults = reads;
  put_faults = puts;
  times = times;
  kept = kept;
  append_faults = append_faults;
}

-- what rules plan for calls
abbrev pub Plans : Type 0 → Type 0
Plans R = R → History → Call → ℕ → Plan

-- ---- a line

-- The requests of a line were served by a session of the hall that began with no point and is in
-- order: what was written is the responses to the bytes that were read, and each call is the
-- session's next call of the hall. The session has a pass of each account of the hall, and its
-- points are those of the line.
pub record IsServed {K R L C : Type 0} (sight : Sight K L C) (plan_of : Plans R)
    (rooms : List RoomView) (users : Configuration) (line : L) (clock : C)
    (session' : SessionView) (finished : Finished L) : Type 0 where
  pub session : SessionView
  pub clock' : C
  pub none : session.trail ≡ []
  pub serves : ServesHall (calls_by plan_of) rooms users session session' (sight.times clock)
      (sight.times clock') (sight.left line) (sight.left finished.line) (sight.held line)
      (sight.held finished.line) (sight.read_faults line) (sight.read_faults finished.line)
      (sight.put_faults line) (sight.put_faults finished.line) finished.served
  pub hall : AreOf rooms session'.passes
  pub in_order : IsSession session'
  pub trail_is : finished.trail ≡ session'.trail
  pub points : finished.http_points ≡ length finished.trail

-- a line came back unread, because memory ran out
pub record IsUnread {L : Type 0} (line : L) (finished : Finished L) : Type 0 where
  pub line_is : finished.line ≡ line
  pub served_is : finished.served ≡ NoMemory
  pub trail_is : finished.trail ≡ []
  pub points : finished.http_points ≡ 0

-- what came back of a line, and the session that left with it, if one had served it
abbrev pub IsLineServed : {K R L C : Type 0} → Sight K L C → Plans R → List RoomView
    → Configuration → L → C → (left : List SessionView) → Finished L → Type 0
IsLineServed sight plan_of rooms users line clock left finished =
    (IsUnread line finished × (left ≡ []))
    ⊎ ((session : SessionView) × (left ≡ session ∷ [])
    × IsServed sight plan_of rooms users line clock session finished)

-- ---- lines

-- A line that was taken, and the clock that was taken for it.
pub record Taken (L C : Type 0) : Type 0 where
  pub line : L
  pub clock : C

abbrev pub taken_of : {L C : Type 0} → L → C → Taken L C
taken_of line clock = record { line = line; clock = clock }

-- a line is taken: it is given, with a clock and a gate
abbrev pub taking : {K L C : Type 0} → Taken L C → List (Deed K L C)
taking t = GaveLine t.line ∷ GaveClock t.clock ∷ GaveGate ∷ []

-- A line was taken after these deeds, while fewer than `MAX_SESSIONS` were out. It is the last of
-- those that are out now.
pub record HasTaken {K L C : Type 0} (out out' : List (Taken L C)) (before did : List (Deed K L C))
    : Type 0 where
  pub next : Taken L C
  pub few : length out < MAX_SESSIONS
  pub out_is : out' ≡ out ++ next ∷ []
  pub did_is : did ≡ before ++ taking next

-- One of the lines that were out was served, and came back after these deeds.
pub record HasReturned {K R L C : Type 0} (sight : Sight K L C) (plan_of : Plans R)
    (rooms : List RoomView) (users : Configuration) (out out' : List (Taken L C))
    (sessions sessions' : List SessionView) (before did : List (Deed K L C)) : Type 0 where
  pub earlier : List (Taken L C)
  pub one : Taken L C
  pub later : List (Taken L C)
  pub left : List SessionView
  pub finished : Finished L
  pub out_is : out ≡ earlier ++ one ∷ later
  pub rest_is : out' ≡ earlier ++ later
  pub served : IsLineServed sight plan_of rooms users one.line one.clock left finished
  pub sessions_are : sessions' ≡ sessions ++ left
  pub did_is : did ≡ before ++ GotLine finished ∷ []

-- In so many steps so many lines were taken. Those that are out have not come back yet, in the
-- order in which they were taken. Each other one came back, once, and these sessions left with
-- them.
abbrev pub AreOutAfter : {K R L C : Type 0} → Sight K L C → Plans R → List RoomView
    → Configuration → (steps taken : ℕ) → List (Taken L C) → List SessionView
    → List (Deed K L C) → Type 0
AreOutAfter sight plan_of rooms users zero taken out sessions did =
    (taken ≡ 0) × (out ≡ []) × (sessions ≡ []) × (did ≡ [])
AreOutAfter {K} {R} {L} {C} sight plan_of rooms users (suc steps) taken out sessions did =
    ((n : ℕ) × (prior : List (Taken L C)) × (before : List (Deed K L C))
    × AreOutAfter sight plan_of rooms users steps n prior sessions before × (taken ≡ n + 1)
    × HasTaken prior out before did)
    ⊎ ((prior : List (Taken L C)) × (earlier : List SessionView) × (before : List (Deed K L C))
    × AreOutAfter sight plan_of rooms users steps taken prior earlier before
    × HasReturned sight plan_of rooms users prior out earlier sessions before did)

abbrev pub AreOut : {K R L C : Type 0} → Sight K L C → Plans R → List RoomView
    → Configuration → ℕ → List (Taken L C) → List SessionView → List (Deed K L C) → Type 0
AreOut sight plan_of rooms users taken out sessions did =
    (steps : ℕ) × AreOutAfter sight plan_of rooms users steps taken out sessions did

-- so many lines were taken, and each came back once, served by these sessions
abbrev pub AreLinesServed : {K R L C : Type 0} → Sight K L C → Plans R → List RoomView
    → Configuration → ℕ → List SessionView → List (Deed K L C) → Type 0
AreLinesServed sight plan_of rooms users taken sessions did =
    AreOut sight plan_of rooms users taken [] sessions did

-- ---- what calls did while lines are served

-- Whatever was done before: so many more lines are taken after it, the lines that are out are these
-- and no longer those, and these sessions have left.
abbrev pub Goes : {K R L C : Type 0} → Sight K L C → Plans R → List RoomView → Configuration
    → ℕ → (out out' : List (Taken L C)) → (left : List SessionView) → List (Deed K L C) → Type 0
Goes {K} {R} {L} {C} sight plan_of rooms users more out out' left did =
    (taken : ℕ) (sessions : List SessionView) (before : List (Deed K L C))
    → AreOut sight plan_of rooms users taken out sessions before
    → AreOut sight plan_of rooms users (taken + more) out' (sessions ++ left) (before ++ did)

-- the next line was taken; or none, because the world failed or memory ran out
abbrev pub HasTakenNext : {K R L C T E : Type 0} → Sight K L C → Plans R → List RoomView
    → Configuration → (out out' : List (Taken L C)) → (left : List SessionView)
    → List (Deed K L C) → Result T E → Type 0
HasTakenNext sight plan_of rooms users out out' left did (Ok x) =
    Goes sight plan_of rooms users 1 out out' left did
HasTakenNext sight plan_of rooms users out out' left did (Err fault) =
    (did ≡ []) × (left ≡ []) × (out' ≡ out)

-- all lines were taken, or fewer
abbrev pub AreEnough : {T E : Type 0} → (taken count : ℕ) → Result T E → Type 0
AreEnough taken count (Ok x) = taken ≡ count
AreEnough taken count (Err fault) = taken < count

-- so many lines were taken, these are out, and these sessions have left
pub record HaveGone {K R L C T E : Type 0} (sight : Sight K L C) (plan_of : Plans R)
    (rooms : List RoomView) (users : Configuration) (out out' : List (Taken L C))
    (left : List SessionView) (count : ℕ) (did : List (Deed K L C)) (result : Result T E)
    : Type 0 where
  pub taken : ℕ
  pub goes : Goes sight plan_of rooms users taken out out' left did
  pub enough : AreEnough taken count result

-- so many lines were served, by these sessions
pub record HasServedLines {K R L C T E : Type 0} (sight : Sight K L C) (plan_of : Plans R)
    (rooms : List RoomView) (users : Configuration) (sessions : List SessionView) (count : ℕ)
    (did : List (Deed K L C)) (result : Result T E) : Type 0 where
  pub served : ℕ
  pub lines : AreLinesServed sight plan_of rooms users served sessions did
  pub enough : AreEnough served count result
