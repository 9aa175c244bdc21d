use denote.Param.Send.{sendable}
use Rattle.std.proofs.Crossing.{crosses}
use Rattle.account_lock.proofs.lock.AccountLock.TheSendSync as lock
use Rattle.account_lock.proofs.Sending.{pass_send}
use Rattle.account_lock.proofs.tests.two_at_once.Goals as goal

pub join-a-requires-send-F : goal.join-a-requires-send-F
join-a-requires-send-F g c κs within =
    let p = pass_send in
    let l = lock.the_sync in
    let s = c.type_bounds.sync-R in
    search (sendable, crosses) depth 20

pub join-a-requires-send-A : goal.join-a-requires-send-A
join-a-requires-send-A g c κs within =
    let p = pass_send in
    search (sendable, crosses) depth 20
