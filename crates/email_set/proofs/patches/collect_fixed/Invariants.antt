use Rattle.std.proofs.Common.{◌≡◌, ◌++◌, drop, map}
use Rattle.jm_json.specs.Json.{member_of}
use Rattle.email_set.specs.Patches.{fixed_names}
use Rattle.email_set.proofs.patches.collect_fixed.Given as goal

abbrev pub invariant-loop-change : goal.invariant-loop-change
invariant-loop-change l = l.names.items ++ fixed_names (map member_of (drop l.change-index l.changes)) ≡ fixed_names (map member_of l.changes)
