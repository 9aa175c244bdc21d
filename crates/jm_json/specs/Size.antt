-- How many values a tree holds, itself included.
use Rattle.std.specs.Prelude.{ℕ, ◌+◌}
use Rattle.jm_json.specs.Tree.{Tree, null, boolean, number, text, list, object, Trees, no_trees, tree, Fields, no_fields, field}

abbrev mutual
  pub size_of : Tree → ℕ
  size_of null = 1
  size_of (boolean b) = 1
  size_of (number z) = 1
  size_of (text s) = 1
  size_of (list ts) = 1 + trees_size ts
  size_of (object fs) = 1 + fields_size fs

  pub trees_size : Trees → ℕ
  trees_size no_trees = 0
  trees_size (tree t ts) = size_of t + trees_size ts

  pub fields_size : Fields → ℕ
  fields_size no_fields = 0
  fields_size (field k t fs) = size_of t + fields_size fs
