use Rattle.std.proofs.Common.{unwrap_or, [], sym, ap, ◌∙◌}
use Rattle.jm_json.specs.Find.{as_object}
use Rattle.jm_json.specs.Json.{tree_of}
use Rattle.jm_json.proofs.Lists.{pairs_of-fields_of}
use Rattle.mailbox_updates.proofs.patches.into_members.Goals as goal

pub returns-in-Object : goal.returns-in-Object
returns-in-Object c = sym (ap (λ t. unwrap_or (as_object (tree_of t)) []) c.in-Object.is ∙ pairs_of-fields_of c.in-Object.members)
