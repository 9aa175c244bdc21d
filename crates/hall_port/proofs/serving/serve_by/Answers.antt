use Rattle.std.proofs.Common.{◌≡◌, List, ◌∙◌, ap, subst}
use Rattle.account_hall.specs.Halls.{AreOf, RoomView}
use Rattle.jmap_http.specs.Connections.{asks_to_end}
use Rattle.hall_port.specs.Serving.{hall_steps, port_over}
use Rattle.hall_port.specs.Views.{PortView}
use Rattle.hall_port.proofs.Rooms.{HasSameRooms, rooms_stay}
use Rattle.hall_port.proofs.Through.{through}
use Rattle.hall_port.proofs.serving.serve_by.Goals as goal

pub returns-clause-hall : goal.returns-clause-hall
returns-clause-hall g c =
    let kept = through (hall_steps g.A.Asks.calls) HasSameRooms (rooms_stay g.A.Asks.calls) c.args.users.now.users asks_to_end c.over-port.result c.serve_requests-served.new.port _ _ _ _ _ _ _ _ _ _ c.serve_requests-served.result c.serve_requests-served.ensures in
    let made : c.over-port.result ≡ port_over (g.A.Asks.rooms c.args.asker) c.args.users.now c.args.passes = c.over-port.ensures in
    let over : c.over-port.result.rooms ≡ g.A.Asks.rooms c.args.asker = ap (λ (p : PortView). p.rooms) made in
    subst (λ (rooms : List RoomView). AreOf rooms c.into_passes.result.passes) (kept ∙ over) c.into_passes.ensures.hall
