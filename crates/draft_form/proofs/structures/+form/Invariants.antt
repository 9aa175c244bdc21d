use Rattle.std.proofs.Common.{◌≡◌, ◌+◌, ◌*◌, map, drop}
use Rattle.std.specs.List.{list_all}
use Rattle.jm_json.specs.Json.{tree_of}
use Rattle.draft_form.specs.Structures.{is_part}
use Rattle.draft_form.proofs.structures.+form.Given as goal

abbrev pub decreases-is_part : goal.decreases-is_part
decreases-is_part l = 3 * l.levels

abbrev pub decreases-has_parts : goal.decreases-has_parts
decreases-has_parts l = 3 * l.levels + 2

abbrev pub decreases-are_parts : goal.decreases-are_parts
decreases-are_parts l = 3 * l.levels + 1

abbrev pub invariant-are_parts-loop-item : goal.invariant-are_parts-loop-item
invariant-are_parts-loop-item l =
    list_all (is_part l.levels l.values) (map tree_of l.items) ≡ list_all (is_part l.levels l.values) (map tree_of (drop l.item-index l.items))
