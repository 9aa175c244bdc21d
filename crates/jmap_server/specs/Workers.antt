-- What is known of workers, and of the lines that they serve.
use Rattle.std.specs.Prelude.{◌≡◌, List, [], ◌∷◌, ◌++◌, map, Option, None, Some}
use Rattle.mail_records.specs.Histories.{History}
use Rattle.server_users.specs.Configuration.{Configuration}
use Rattle.account_hall.specs.Halls.{AreOf, RoomView}
use Rattle.account_hall.specs.Sessions.{SessionView}
use Rattle.hall_port.specs.Serving.{ServesHall}
use Rattle.hall_port.specs.Steps.{calls_by}
use Rattle.account_hall.specs.Closing.{opened_by}
use Rattle.jmap_server.specs.Lines.{IsLineServed, Plans, Sight, Taken, taken_of}
use Rattle.jmap_server.specs.declared.finished.Finished.{Finished}
use Rattle.jmap_server.specs.declared.served_line.ServedLine.{ServedLine}
use Rattle.jmap_server.specs.declared.worker.LinePromise.{LinePromise}
use Rattle.jmap_server.specs.declared.worker.Worker.{Worker}

-- a worker, with what it promised
abbrev pub LineWorker : (K R L C : Type 0) → Type 0
LineWorker K R L C = Worker L (LinePromise K R L C)

-- A line was served by a session of the hall that began with no point. What was written is the
-- responses to the bytes that were read, and each call is the session's next call of the hall. What
-- its accounts opened with stays as it was.
pub record IsServedLine {K R L C : Type 0} (sight : Sight K L C) (plan_of : Plans R)
    (rooms : List RoomView) (users : Configuration) (session : SessionView) (line : L) (clock : C)
    (done : ServedLine L) : Type 0 where
  pub clock' : C
  pub none : session.trail ≡ []
  pub serves : ServesHall (calls_by plan_of) rooms users session done.passes (sight.times clock)
      (sight.times clock') (sight.left line) (sight.left done.line) (sight.held line)
      (sight.held done.line) (sight.read_faults line) (sight.read_faults done.line)
      (sight.put_faults line) (sight.put_faults done.line) done.served
  pub hall : AreOf rooms done.passes.passes
  pub openings : map opened_by done.passes.passes ≡ map opened_by session.passes

-- a line is to be served for these users by this session, over a hall of these accounts
abbrev pub IsPromiseOf : {K R L C : Type 0} → List RoomView → Configuration → SessionView → L → C
    → LinePromise K R L C → Type 0
IsPromiseOf rooms users session line clock p =
    (p.hall.value ≡ rooms) × (p.users.value ≡ users) × (p.line.value ≡ line)
    × (p.clock.value ≡ clock) × (p.passes.value ≡ session)

-- The worker serves its line for these users, over a hall of these accounts, by a session that
-- knows them from these openings.
abbrev pub IsWorker : {K R L C : Type 0} → List RoomView → Configuration → List History
    → LineWorker K R L C → Type 0
IsWorker rooms users openings w =
    (w.handle.promise.hall.value ≡ rooms) × (w.handle.promise.users.value ≡ users)
    × (map opened_by w.handle.promise.passes.value.passes ≡ openings)

-- the line that a worker serves, and its clock
abbrev pub taken_by : {K R L C : Type 0} → LineWorker K R L C → Taken L C
taken_by w = taken_of w.handle.promise.line.value w.handle.promise.clock.value

-- One of these workers was joined: it had served its line. The others are left.
pub record IsJoined {K R L C : Type 0} (sight : Sight K L C) (plan_of : Plans R)
    (workers workers' : List (LineWorker K R L C)) (done : ServedLine L) : Type 0 where
  pub earlier : List (LineWorker K R L C)
  pub one : LineWorker K R L C
  pub later : List (LineWorker K R L C)
  pub all_are : workers ≡ earlier ++ one ∷ later
  pub rest_are : workers' ≡ earlier ++ later
  pub served : IsServedLine sight plan_of one.handle.promise.hall.value
      one.handle.promise.users.value one.handle.promise.passes.value one.handle.promise.line.value
      one.handle.promise.clock.value done

-- A worker more was started, which serves the line by a session that knows the accounts from these
-- openings; or the line is back already, and its session has left.
abbrev pub IsHandedOver : {K R L C : Type 0} → Sight K L C → Plans R → List RoomView
    → Configuration → List History → L → C → (workers workers' : List (LineWorker K R L C))
    → (left : List SessionView) → Option (Finished L) → Type 0
IsHandedOver {K} {R} {L} {C} sight plan_of rooms users openings line clock workers workers' left
    None =
    (w : LineWorker K R L C) × (session : SessionView)
    × IsPromiseOf rooms users session line clock w.handle.promise
    × (map opened_by session.passes ≡ openings) × (workers' ≡ workers ++ w ∷ []) × (left ≡ [])
IsHandedOver sight plan_of rooms users openings line clock workers workers' left
    (Some finished) =
    IsLineServed sight plan_of rooms users line clock left finished × (workers' ≡ workers)
