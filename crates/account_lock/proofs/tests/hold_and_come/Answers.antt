use denote.Param.Send.{sendable}
use Rattle.std.proofs.Crossing.{crosses}
use Rattle.account_lock.proofs.lock.AccountLock.TheSendSync as lock
use Rattle.account_lock.proofs.Sending.{pass_send}
use Rattle.account_lock.proofs.tests.hold_and_come.Goals as goal

pub join-one-requires-send-F : goal.join-one-requires-send-F
join-one-requires-send-F g c κs within =
    let p = pass_send in
    let l = lock.the_sync in
    let s = c.type_bounds.sync-R in
    search (sendable, crosses) depth 20

pub join-one-requires-send-A : goal.join-one-requires-send-A
join-one-requires-send-A g c κs within =
    let p = pass_send in
    search (sendable, crosses) depth 20
