-- How a connection is served over a hall.
use Rattle.std.specs.Prelude.{◌≡◌, ℕ, List, Option}
use Rattle.account_hall.specs.Halls.{RoomView}
use Rattle.account_hall.specs.Sessions.{SessionView}
use Rattle.jmap_http.specs.Connections.{Serves, asks_to_end}
use Rattle.jmap_http.specs.Steps.{UserSteps, steps_of}
use Rattle.jmap_http.specs.declared.served.Served.{Served}
use Rattle.server_users.specs.Configuration.{Configuration}
use Rattle.hall_port.specs.Steps.{Calls, hall_answers, hall_own, hall_stops}
use Rattle.hall_port.specs.Views.{PortView}

-- the steps of a port whose session makes these calls
abbrev pub hall_steps : Calls → UserSteps PortView
hall_steps calls = steps_of (hall_answers calls) (hall_stops calls) (hall_own calls)

-- a port of these users over a hall, with a session, before the first request
abbrev pub port_over : List RoomView → Configuration → SessionView → PortView
port_over rooms users session =
    record { rooms = rooms; users = users; session = session; user = 0; time = 0 }

-- A connection was served over the hall by a port that had the first session, and has the second
-- one after it. The rest is as for any port.
pub record ServesHall (calls : Calls) (rooms : List RoomView) (users : Configuration)
    (session session' : SessionView) (times times' left left' held held' : Option (List ℕ))
    (reads reads' puts puts' : ℕ) (served : Served) : Type 0 where
  pub after : PortView
  pub serves : Serves (hall_steps calls) users.users asks_to_end (port_over rooms users session)
      after times times' left left' held held' reads reads' puts puts' served
  pub session_is : session' ≡ after.session
