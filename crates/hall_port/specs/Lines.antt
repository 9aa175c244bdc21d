-- Lines of requests and uploads over a hall. Each upload is to the first account that the user may
-- change.
use Rattle.std.specs.Prelude.{◌≡◌, ℕ, refl, List, [], ◌∷◌, Option, Some, None, Result, IfErr, OnOk, cond}
use Rattle.std.proofs.Common.{inl}
use Rattle.batch_lines.specs.Faults.{ExplainsFault}
use Rattle.batch_lines.specs.Input.{HasAnsweredInput, HasBegunInput, Seen}
use Rattle.batch_lines.specs.declared.fault.LinesFault.{LinesFault}
use Rattle.batch_lines.specs.declared.upload.Uploaded.{Uploaded}
use Rattle.batch_lines.specs.declared.upload.Uploaded.TheVariants as line
use Rattle.account_hall.specs.Halls.{RoomView}
use Rattle.account_hall.specs.Sessions.{SessionView}
use Rattle.jmap_http.specs.declared.port.Stored.{Stored}
use Rattle.jmap_http.specs.declared.port.Stored.TheVariants.{Kept, Full, Failed}
use Rattle.server_users.specs.Configuration.{Configuration}
use Rattle.server_users.specs.declared.users.UserAccount.{UserAccount}
use Rattle.hall_port.specs.Serving.{port_over}
use Rattle.hall_port.specs.Steps.{Calls, HasStopped, IsUploaded, hall_answers, hall_stops}
use Rattle.read_replies.specs.Targets.{accounts_of}
use Rattle.hall_port.specs.Views.{PortView}

-- the first of these accounts that the user may change
abbrev pub first_changeable : List UserAccount → Option UserAccount
first_changeable [] = None
first_changeable (a ∷ rest) = cond a.read_only (first_changeable rest) (Some a)

-- what is answered to a line, where this is answered to the upload to the account with this
-- identifier
abbrev pub uploaded_as : List ℕ → Stored → Uploaded
uploaded_as id (Kept blob) = line.Kept id blob
uploaded_as id Full = line.Full
uploaded_as id Failed = line.Failed

-- The bytes are uploaded to the account, and that fails if there is none.
abbrev pub UploadsTo : Calls → Option UserAccount → PortView → List ℕ → Uploaded → PortView → Type 0
UploadsTo calls None s bytes u s' = (s' ≡ s) × (u ≡ line.Failed)
UploadsTo calls (Some a) s bytes u s' =
    (stored : Stored) × IsUploaded calls s a.number bytes stored s' × (u ≡ uploaded_as a.id stored)

-- an upload of a line is answered
abbrev pub line_uploads : Calls → PortView → List ℕ → Uploaded → PortView → Type 0
line_uploads calls s bytes u s' =
    UploadsTo calls (first_changeable (accounts_of s.users s.user)) s bytes u s'

abbrev pub HaltsAt : Option UserAccount → PortView → PortView → Type 0
HaltsAt None s s' = s' ≡ s
HaltsAt (Some a) s s' = HasStopped a.number s s'

-- such an upload ends out of memory
abbrev pub line_halts : PortView → List ℕ → PortView → Type 0
line_halts s bytes s' = HaltsAt (first_changeable (accounts_of s.users s.user)) s s'

halts_at : (o : Option UserAccount) (s : PortView) → HaltsAt o s s
halts_at None s = refl
halts_at (Some a) s = inl refl

pub line_rests : (s : PortView) (bytes : List ℕ) → line_halts s bytes s
line_rests s bytes = halts_at (first_changeable (accounts_of s.users s.user)) s

-- Lines were answered over the hall by a port of the first user at the timestamp 0, that had the
-- first session, and has the second one after them. The rest is as for any port.
pub record AnswersLines (calls : Calls) (rooms : List RoomView) (users : Configuration)
    (session session' : SessionView) (outcome : Result (Unit {0}) LinesFault) (v : Seen) : Type 0
  where
    pub after : PortView
    pub ok : OnOk outcome (HasAnsweredInput (hall_answers calls) (line_uploads calls)
        (port_over rooms users session) after v)
    pub cause : IfErr outcome (λ f. ExplainsFault (hall_answers calls) (line_uploads calls)
        (port_over rooms users session) after f v)
    pub begun : HasBegunInput (hall_answers calls) (line_uploads calls) (hall_stops calls)
        line_halts (port_over rooms users session) after v
    pub session_is : session' ≡ after.session
