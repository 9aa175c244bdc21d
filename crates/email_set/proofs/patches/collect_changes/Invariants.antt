use Rattle.std.proofs.Common.{◌≡◌, List, drop, map}
use Rattle.jm_json.specs.Json.{member_of}
use Rattle.jm_json.specs.declared.invocation.Created.{Created}
use Rattle.set_parts.specs.Views.{HoldTexts}
use Rattle.email_set.specs.Patches.{meant_change, meant_changes, put_distinct}
use Rattle.email_set.proofs.patches.collect_changes.Given as goal

abbrev pub invariant-loop-change : goal.invariant-loop-change
invariant-loop-change l =
    (made : List Created) → HoldTexts l.texts made
    → put_distinct (map (meant_change made) (map member_of (drop l.change-index l.changes))) l.meant ≡ meant_changes made (map member_of l.changes)
