use Rattle.std.proofs.Common.{◌≡◌, ◌++◌, map, drop}
use Rattle.jm_json.specs.Json.{tree_of}
use Rattle.sort_terms.specs.Forms.{comparators_from}
use Rattle.sort_terms.proofs.comparators.read_comparator_items.Given as goal

abbrev pub invariant-loop-item : goal.invariant-loop-item
invariant-loop-item l = l.all.items ++ comparators_from l.kind (map tree_of (drop l.item-index l.items)) ≡ comparators_from l.kind (map tree_of l.items)
