use denote.Exit.{no}
use denote.Param.{param}
use denote.Struct.Field.{u64-field}
use denote.Param.Send.{IsSend, IsSync, arg_send, param_send, sendable, shr_send}
use Rattle.std.proofs.Crossing.{crosses}
use Rattle.std.proofs.alloc.Global.TheSendSync as global
use Rattle.server_users.proofs.users.Users.TheSendSync as users
use Rattle.account_hall.specs.contracts.hall.Hall.{the_row}
use Rattle.account_hall.proofs.Sending.{passes_send}
use Rattle.jmap_server.proofs.ends.Ends.TheSendSync as ends
use Rattle.jmap_server.proofs.Sharing.{hall_sync, ten_send}
use Rattle.jmap_server.proofs.worker.start_worker.Goals as goal

pub spawn_with-requires-send-F : goal.spawn_with-requires-send-F
spawn_with-requires-send-F g c κs within =
    let n : IsSend (u64-field).row = search sendable in
    let h : IsSync (the_row (param 2 g.row.K) (param 3 g.row.R) g.K.Keeper g.R.Rules) =
    hall_sync (param 2 g.row.K) (param 3 g.row.R) g.K.Keeper g.R.Rules c.type_bounds.send-K c.type_bounds.send-R in
    param_send 2 _ (arg_send _ no _ (ten_send _ _ _ _ _ _ _ _ _ _ _
    (shr_send _ _ _ c.type_bounds.sync-H)
    global.the_send
    (shr_send _ _ _ users.the_sync)
    (shr_send _ _ _ h)
    (shr_send _ _ _ ends.the_sync)
    n
    passes_send
    c.type_bounds.send-L
    c.type_bounds.send-C
    c.type_bounds.send-G))

pub spawn_with-requires-send-T : goal.spawn_with-requires-send-T
spawn_with-requires-send-T g c κs within =
    let p = passes_send in
    let l = c.type_bounds.send-L in
    search (sendable, crosses, param_send, arg_send) depth 40
