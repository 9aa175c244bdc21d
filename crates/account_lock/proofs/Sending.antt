-- A pass may be sent to another thread.
use denote.Param.Send.{IsSend, sendable}
use Rattle.std.proofs.Crossing.{crosses}
use Rattle.atomic_table.proofs.badge.Badge.TheSendSync as badge
use Rattle.account_lock.specs.contracts.lock.Pass.{the_row}

pub pass_send : IsSend the_row
pass_send =
    let b = badge.the_send in
    search (sendable, crosses) depth 40
