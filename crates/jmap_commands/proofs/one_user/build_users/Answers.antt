use Rattle.std.proofs.Common.{◌≡◌, rules}
use Rattle.jmap_commands.proofs.Configured.{configured, only_memory, the_bytes}
use Rattle.jmap_commands.proofs.one_user.build_users.Goals as goal

pub returns-in-Ok : goal.returns-in-Ok
returns-in-Ok c =
    let is : c.as_bytes.result.now ≡ the_bytes = search rules in
    configured c.as_bytes.result.now c.in-Ok.users is c.in-Ok.ensures.ok

pub convert_config_fault-requires : goal.convert_config_fault-requires
convert_config_fault-requires c =
    let is : c.as_bytes.result.now ≡ the_bytes = search rules in
    record { only = only_memory c.as_bytes.result.now c.in-Err.fault is c.in-Err.ensures.fault }
