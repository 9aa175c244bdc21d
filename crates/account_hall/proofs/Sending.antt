-- The passes of a session may be sent to another thread.
use denote.Param.Send.{IsSend, sendable}
use Rattle.std.proofs.Crossing.{crosses}
use Rattle.account_lock.proofs.Sending.{pass_send}
use Rattle.account_hall.specs.contracts.passes.Passes.{the_row}

pub passes_send : IsSend the_row
passes_send =
    let p = pass_send in
    search (sendable, crosses) depth 40
