use Rattle.std.proofs.Common.{◌≡◌, ◌<◌, Some, length, sym, subst}
use Rattle.server_users.specs.Configuration.{IsNumbered}
use Rattle.jm_json.specs.Invocations.{call_of}
use Rattle.hall_port.specs.Views.{PortView}
use Rattle.read_replies.specs.Targets.{source_of}
use Rattle.hall_port.proofs.Found.{source_among, source_apart, target_among}
use Rattle.hall_port.proofs.hall_port.HallPortPort.call.Goals as goal

pub perform-requires : goal.perform-requires
perform-requires g c =
    let users = c.self.inside.users.now in
    let own : c.in-Ok.to.now.number < length users.account_ids =
    (target_among (IsNumbered users.account_ids) c.find_accounts-accounts.result.now (call_of c.args.call) c.in-Ok.to.now c.find_accounts-accounts.ensures.numbered c.in-Ok.ensures.ok).0 in
    record { account = subst (λ (s : PortView). c.in-Ok.to.now.number < length s.users.account_ids) c.self.view_is own }

pub copy_to-requires : goal.copy_to-requires
copy_to-requires g c =
    let users = c.self.inside.users.now in
    let call = call_of c.args.call in
    let accounts = c.find_accounts-accounts.result.now in
    let source : source_of accounts call ≡ Some c.in-Some.from.now = sym c.in-Some.ensures in
    let to : c.in-Ok.to.now.number < length users.account_ids =
    (target_among (IsNumbered users.account_ids) accounts call c.in-Ok.to.now c.find_accounts-accounts.ensures.numbered c.in-Ok.ensures.ok).0 in
    let from : c.in-Some.from.now.number < length users.account_ids =
    (source_among (IsNumbered users.account_ids) accounts call c.in-Some.from.now c.find_accounts-accounts.ensures.numbered source).0 in
    record {
      from = subst (λ (s : PortView). c.in-Some.from.now.number < length s.users.account_ids) c.self.view_is from;
      to = subst (λ (s : PortView). c.in-Ok.to.now.number < length s.users.account_ids) c.self.view_is to;
      apart = source_apart accounts call c.in-Some.from.now c.in-Ok.to.now c.in-Ok.ensures.ok source;
    }
