use denote.Param.Send.{sendable}
use Rattle.std.proofs.Crossing.{crosses}
use Rattle.account_lock.proofs.lock.AccountLock.TheSendSync as lock
use Rattle.account_lock.proofs.Sending.{pass_send}
use Rattle.account_lock.proofs.tests.by_four.Goals as goal

pub join-low-requires-send-F : goal.join-low-requires-send-F
join-low-requires-send-F g c κs within =
    let p = pass_send in
    let l = lock.the_sync in
    let s = c.type_bounds.sync-R in
    search (sendable, crosses) depth 20

pub join-low-requires-send-A : goal.join-low-requires-send-A
join-low-requires-send-A g c κs within =
    let p = pass_send in
    search (sendable, crosses) depth 20
