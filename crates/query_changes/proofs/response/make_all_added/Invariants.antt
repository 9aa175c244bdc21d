use Rattle.std.proofs.Common.{◌≡◌, ◌++◌, drop}
use Rattle.query_changes.specs.Responses.{added_trees}
use Rattle.query_changes.proofs.response.make_all_added.Given as goal

abbrev pub invariant-loop-item : goal.invariant-loop-item
invariant-loop-item l = l.items ++ added_trees l.kind (drop l.item-index l.added) ≡ added_trees l.kind l.added
