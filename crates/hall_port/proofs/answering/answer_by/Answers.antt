use Rattle.std.proofs.Common.{◌≡◌, List, ◌∙◌, ap, subst}
use Rattle.account_hall.specs.Halls.{AreOf, RoomView}
use Rattle.batch_lines.specs.Input.{seen}
use Rattle.hall_port.specs.Lines.{line_halts, line_uploads}
use Rattle.hall_port.specs.Serving.{hall_steps, port_over}
use Rattle.hall_port.specs.Views.{PortView}
use Rattle.hall_port.proofs.LinesDone.{answered_from}
use Rattle.hall_port.proofs.Rooms.{HasSameRooms, rooms_stay, rooms_stay_by_lines}
use Rattle.hall_port.proofs.ThroughLines.{through_lines}
use Rattle.hall_port.proofs.answering.answer_by.Goals as goal

pub returns-clause-answered : goal.returns-clause-answered
returns-clause-answered g c =
    answered_from g.A.Asks.calls (g.A.Asks.rooms c.args.asker) c.args.users.now c.args.passes c.into_passes.result c.answer_lines-answered.result _ c.over-port.result c.answer_lines-answered.new.port c.over-port.ensures
    c.answer_lines-answered.ensures.ok c.answer_lines-answered.ensures.cause c.answer_lines-answered.ensures.begun c.into_passes.ensures.session

pub returns-clause-hall : goal.returns-clause-hall
returns-clause-hall g c =
    let kept = through_lines (hall_steps g.A.Asks.calls) (line_uploads g.A.Asks.calls) line_halts HasSameRooms (rooms_stay g.A.Asks.calls) (rooms_stay_by_lines g.A.Asks.calls) c.over-port.result c.answer_lines-answered.new.port
    (seen g.S.Source.left g.S.Source.faults c.args.source.now c.answer_lines-answered.new.source g.O.Sink.held g.O.Sink.faults c.args.out.now c.answer_lines-answered.new.out) c.answer_lines-answered.ensures.begun in
    let made : c.over-port.result ≡ port_over (g.A.Asks.rooms c.args.asker) c.args.users.now c.args.passes = c.over-port.ensures in
    let over : c.over-port.result.rooms ≡ g.A.Asks.rooms c.args.asker = ap (λ (p : PortView). p.rooms) made in
    subst (λ (rooms : List RoomView). AreOf rooms c.into_passes.result.passes) (kept ∙ over) c.into_passes.ensures.hall
