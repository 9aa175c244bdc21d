use denote.Param.{param}
use denote.Param.Send.{IsSync, sendable}
use Rattle.std.proofs.alloc.Global.TheSendSync as global
use Rattle.account_hall.specs.contracts.hall.Hall.{the_row}
use Rattle.account_hall.proofs.Sending.{passes_send}
use Rattle.tests_halls.proofs.Sharing.{hall_sync}
use Rattle.tests_halls.proofs.account_hall_copy_tests.both_ways.Goals as goal

pub join-requires-send-F : goal.join-requires-send-F
join-requires-send-F g c κs within =
    let a = global.the_sync in
    let p = passes_send in
    let h : IsSync (the_row (param 1 g.row.K) (param 2 g.row.R) g.K.Keeper g.R.Rules) =
    hall_sync (param 1 g.row.K) (param 2 g.row.R) g.K.Keeper g.R.Rules c.type_bounds.send-K c.type_bounds.send-R in
    let s = c.type_bounds.sync-A in
    search sendable depth 20

pub join-requires-send-A : goal.join-requires-send-A
join-requires-send-A g c κs within =
    let p = passes_send in
    search sendable depth 20
