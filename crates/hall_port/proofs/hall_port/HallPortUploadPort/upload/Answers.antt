use Rattle.std.proofs.Common.{◌<◌, length, subst, sym}
use Rattle.server_users.specs.Configuration.{IsNumbered}
use Rattle.hall_port.specs.Views.{PortView}
use Rattle.hall_port.proofs.Found.{changeable_among}
use Rattle.hall_port.proofs.hall_port.HallPortUploadPort.upload.Goals as goal

pub keep-requires : goal.keep-requires
keep-requires g c =
    let users = c.self.inside.users.now in
    let own : c.in-Some.to.now.number < length users.account_ids =
    (changeable_among (IsNumbered users.account_ids) c.find_accounts.result.now c.in-Some.to.now c.find_accounts.ensures.numbered (sym c.in-Some.ensures)).0 in
    record { account = subst (λ (s : PortView). c.in-Some.to.now.number < length s.users.account_ids) c.self.view_is own }
