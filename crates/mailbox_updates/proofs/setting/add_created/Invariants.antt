use Rattle.std.proofs.Common.{List, ◌++◌, take}
use Rattle.jm_json.specs.declared.invocation.Created.{Created}
use Rattle.set_parts.specs.Views.{AreMade}
use Rattle.mailbox_updates.proofs.setting.add_created.Given as goal

abbrev pub invariant-loop-created : goal.invariant-loop-created
invariant-loop-created l = (made : List Created) → AreMade l.initial.records made → AreMade l.records (made ++ take l.created-index l.fresh)
