use denote.Param.Send.{sendable}
use Rattle.account_lock.proofs.Sending.{pass_send}
use Rattle.measure.proofs.lock.by_account_lock.Goals as goal

pub map_vec-requires-send-J : goal.map_vec-requires-send-J
map_vec-requires-send-J g c κs within =
    let p = pass_send in
    search sendable depth 20
