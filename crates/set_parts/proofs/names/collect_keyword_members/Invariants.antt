use Rattle.std.proofs.Common.{◌≡◌, [], drop, map, true, ℕ, List}
use Rattle.jm_json.specs.Order.{put_all}
use Rattle.jm_json.specs.Tree.{Tree, boolean}
use Rattle.set_parts.proofs.names.collect_keyword_members.Given as goal

abbrev true_at : List ℕ → List ℕ × Tree
true_at k = (k, boolean true)

abbrev pub invariant-loop-keyword : goal.invariant-loop-keyword
invariant-loop-keyword l = put_all (map true_at (drop l.keyword-index l.keywords)) l.set ≡ put_all (map true_at l.keywords) []
