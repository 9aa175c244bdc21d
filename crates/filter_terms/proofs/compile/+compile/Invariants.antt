use Rattle.std.proofs.Common.{◌≡◌, ◌+◌, ◌*◌, ◌++◌, map, drop}
use Rattle.jm_json.specs.Tree.{trees_of, fields_of}
use Rattle.jm_json.specs.Size.{size_of, trees_size, fields_size}
use Rattle.jm_json.specs.Json.{tree_of, member_of}
use Rattle.filter_terms.specs.Filters.{conditions_match, items_match}
use Rattle.filter_terms.specs.Compiled.{match_each}
use Rattle.filter_terms.specs.Targets.{Target}
use Rattle.filter_terms.proofs.compile.+compile.Given as goal

abbrev pub decreases-compile : goal.decreases-compile
decreases-compile l = 4 * size_of (tree_of l.tree.now)

abbrev pub decreases-compile_object : goal.decreases-compile_object
decreases-compile_object l = 4 * fields_size (fields_of l.members.now) + 3

abbrev pub decreases-compile_conditions : goal.decreases-compile_conditions
decreases-compile_conditions l = 4 * fields_size (fields_of (map member_of l.members.now)) + 2

abbrev pub decreases-compile_list : goal.decreases-compile_list
decreases-compile_list l = 4 * size_of (tree_of l.value.now) + 1

abbrev pub decreases-compile_items : goal.decreases-compile_items
decreases-compile_items l = 4 * trees_size (trees_of (map tree_of l.items.now)) + 2

abbrev pub invariant-compile_conditions-loop-member : goal.invariant-compile_conditions-loop-member
invariant-compile_conditions-loop-member l =
    (x : Target) → conditions_match l.kind x (fields_of (map member_of (drop l.member-index l.members))) ≡ conditions_match l.kind x (fields_of (map member_of l.members))

abbrev pub invariant-compile_items-loop-item : goal.invariant-compile_items-loop-item
invariant-compile_items-loop-item l =
    (x : Target) → match_each l.all.items x ++ items_match l.kind x (trees_of (map tree_of (drop l.item-index l.items))) ≡ items_match l.kind x (trees_of (map tree_of l.items))
