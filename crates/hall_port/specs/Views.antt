-- What contracts see of a port over a hall.
use Rattle.std.specs.Prelude.{ℕ, ◌≤◌, List, length}
use Rattle.jm_base.specs.declared.utc_dates.TheConstants.{LAST_TIMESTAMP}
use Rattle.account_hall.specs.Halls.{AreOf, RoomView}
use Rattle.account_hall.specs.Sessions.{SessionView}
use Rattle.server_users.specs.Configuration.{Configuration}

-- The accounts of the hall, the users of the server and their accounts, the session of the port,
-- the index of the user whose request began last, and the timestamp of that request.
pub record PortView : Type 0 where
  pub rooms : List RoomView
  pub users : Configuration
  pub session : SessionView
  pub user : ℕ
  pub time : ℕ

-- What holds of each port: its session is of the hall, the hall has each account of the server, and
-- the timestamp has a date.
pub record IsPort (s : PortView) : Type 0 where
  pub hall : AreOf s.rooms s.session.passes
  pub accounts : length s.users.account_ids ≤ length s.rooms
  pub in_range : s.time ≤ LAST_TIMESTAMP
