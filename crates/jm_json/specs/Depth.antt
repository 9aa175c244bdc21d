-- How deep lists and objects nest: a value that is neither has depth 0.
use Rattle.std.specs.Prelude.{ℕ, suc, max}
use Rattle.jm_json.specs.Tree.{Tree, null, boolean, number, text, list, object, Trees, no_trees, tree, Fields, no_fields, field}

abbrev mutual
  pub depth_of : Tree → ℕ
  depth_of null = 0
  depth_of (boolean b) = 0
  depth_of (number z) = 0
  depth_of (text s) = 0
  depth_of (list ts) = suc (trees_depth ts)
  depth_of (object fs) = suc (fields_depth fs)

  pub trees_depth : Trees → ℕ
  trees_depth no_trees = 0
  trees_depth (tree t ts) = max (depth_of t) (trees_depth ts)

  pub fields_depth : Fields → ℕ
  fields_depth no_fields = 0
  fields_depth (field k t fs) = max (depth_of t) (fields_depth fs)
