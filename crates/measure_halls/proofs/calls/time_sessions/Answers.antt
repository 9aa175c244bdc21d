use denote.Param.{param}
use denote.Param.Send.{IsSync, sendable}
use Rattle.std.proofs.alloc.Global.TheSendSync as global
use Rattle.account_hall.specs.contracts.hall.Hall.{the_row}
use Rattle.account_hall.proofs.Sending.{passes_send}
use Rattle.measure_halls.proofs.Sharing.{hall_sync}
use Rattle.measure_halls.proofs.calls.time_sessions.Goals as goal

pub map_vec-requires-sync-F : goal.map_vec-requires-sync-F
map_vec-requires-sync-F g c κs within =
    let a = global.the_sync in
    let h : IsSync (the_row (param 1 g.row.K) (param 2 g.row.R) g.K.Keeper g.R.Rules) =
    hall_sync (param 1 g.row.K) (param 2 g.row.R) g.K.Keeper g.R.Rules c.type_bounds.send-K c.type_bounds.send-R in
    let s = c.type_bounds.sync-H in
    search sendable depth 20

pub map_vec-requires-send-J : goal.map_vec-requires-send-J
map_vec-requires-send-J g c κs within =
    let p = passes_send in
    search sendable depth 20
