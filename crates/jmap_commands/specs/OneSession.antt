-- Lines that were answered over a hall of one account, with the only session that was ever let in.
use Rattle.std.specs.Prelude.{◌≡◌, ℕ, ◌≤◌, List, [], ◌∷◌, Result}
use Rattle.mail_records.specs.Histories.{Entry, History}
use Rattle.account_book.specs.Books.{refusals_in}
use Rattle.account_book.specs.declared.asks.Call.{Call}
use Rattle.account_book.specs.declared.plans.Plan.{Plan}
use Rattle.account_lock.specs.Entries.{StartsWith}
use Rattle.account_lock.specs.Passes.{root_of, split_off}
use Rattle.account_lock.specs.Views.{PassFacts}
use Rattle.account_hall.specs.Halls.{FrontView, RoomView}
use Rattle.account_hall.specs.Sessions.{IsSession, SessionView, session_of}
use Rattle.batch_lines.specs.Input.{Seen}
use Rattle.batch_lines.specs.declared.fault.LinesFault.{LinesFault}
use Rattle.server_users.specs.Configuration.{Configuration}
use Rattle.hall_port.specs.Lines.{AnswersLines}
use Rattle.hall_port.specs.Steps.{calls_by}

-- the hall has one account, the front let one session in, and that is in
pub record HasOneIn (rooms : List RoomView) (front : FrontView) : Type 0 where
  pub room : RoomView
  pub root : PassFacts
  pub rooms_are : rooms ≡ room ∷ []
  pub roots_are : front.roots ≡ root ∷ []
  pub none_left : root.ended ≡ []
  pub inside : front.inside ≡ 1

-- a session that was just let into a hall of one account, which opened with this history
pub record IsFirst (before : ℕ) (opened : History) (session : SessionView) : Type 0 where
  pub room : RoomView
  pub is : session ≡ session_of (split_off (root_of room.lock before opened) ∷ []) []

-- A session has left that was alone in a hall of one account. The account's entries since it was
-- opened are exactly those that the session gave, and begin with those that it had seen.
pub record WasAlone (session : SessionView) (entries : List Entry) : Type 0 where
  pub pass : PassFacts
  pub only : session.passes ≡ pass ∷ []
  pub seen : StartsWith entries pass.seen
  pub own : entries ≡ pass.own
  pub in_order : IsSession session

-- Lines were answered with a session that was alone until it left. The account refused no more of
-- its entries than its keeper counts faults.
pub record AnswersAlone {K R : Type 0} (append_faults : K → ℕ)
    (plan_of : R → History → Call → ℕ → Plan) (rooms : List RoomView) (users : Configuration)
    (session : SessionView) (outcome : Result (Unit {0}) LinesFault) (v : Seen) : Type 0 where
  pub after : SessionView
  pub entries : List Entry
  pub keeper : K
  pub answered : AnswersLines (calls_by plan_of) rooms users session after outcome v
  pub alone : WasAlone after entries
  pub refusals : refusals_in entries ≤ append_faults keeper
