-- What was answered over a port is what was answered over its hall.
use Rattle.std.proofs.Common.{◌≡◌, List, Result, IfErr, OnOk, subst}
use Rattle.account_hall.specs.Halls.{RoomView}
use Rattle.account_hall.specs.Sessions.{SessionView}
use Rattle.batch_lines.specs.Faults.{ExplainsFault}
use Rattle.batch_lines.specs.Input.{HasAnsweredInput, HasBegunInput, Seen}
use Rattle.batch_lines.specs.declared.fault.LinesFault.{LinesFault}
use Rattle.server_users.specs.Configuration.{Configuration}
use Rattle.hall_port.specs.Lines.{AnswersLines, line_halts, line_uploads}
use Rattle.hall_port.specs.Serving.{port_over}
use Rattle.hall_port.specs.Steps.{Calls, hall_answers, hall_stops}
use Rattle.hall_port.specs.Views.{PortView}

pub answered_from : (calls : Calls) (rooms : List RoomView) (users : Configuration) (session session' : SessionView) (outcome : Result (Unit {0}) LinesFault) (v : Seen) (s after : PortView)
    → s ≡ port_over rooms users session
    → OnOk outcome (HasAnsweredInput (hall_answers calls) (line_uploads calls) s after v)
    → IfErr outcome (λ f. ExplainsFault (hall_answers calls) (line_uploads calls) s after f v)
    → HasBegunInput (hall_answers calls) (line_uploads calls) (hall_stops calls) line_halts s after v
    → session' ≡ after.session → AnswersLines calls rooms users session session' outcome v
answered_from calls rooms users session session' outcome v s after is ok cause begun same = record {
  after = after;
  ok = subst (λ (x : PortView). OnOk outcome (HasAnsweredInput (hall_answers calls) (line_uploads calls) x after v)) is ok;
  cause = subst (λ (x : PortView). IfErr outcome (λ f. ExplainsFault (hall_answers calls) (line_uploads calls) x after f v)) is cause;
  begun = subst (λ (x : PortView). HasBegunInput (hall_answers calls) (line_uploads calls) (hall_stops calls) line_halts x after v) is begun;
  session_is = same;
}
