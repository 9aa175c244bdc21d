-- Whether two JSON trees are equal.
use Rattle.std.specs.Prelude.{Bool, true, false, not, ◌&&◌, if◌then◌else◌, bytes_eq}
use Rattle.std.specs.Ordering.{int_eq}
use Rattle.jm_json.specs.Tree.{Tree, null, boolean, number, text, list, object, Trees, no_trees, tree, Fields, no_fields, field}

abbrev pub is_same_truth : Bool → Bool → Bool
is_same_truth a b = if a then b else not b

abbrev mutual
  pub is_same : Tree → Tree → Bool
  is_same null null = true
  is_same (boolean a) (boolean b) = is_same_truth a b
  is_same (number y) (number z) = int_eq y z
  is_same (text s) (text t) = bytes_eq s t
  is_same (list ss) (list ts) = are_same_trees ss ts
  is_same (object fs) (object gs) = are_same_fields fs gs
  is_same _ _ = false

  pub are_same_trees : Trees → Trees → Bool
  are_same_trees no_trees no_trees = true
  are_same_trees (tree s ss) (tree t ts) = is_same s t && are_same_trees ss ts
  are_same_trees _ _ = false

  pub are_same_fields : Fields → Fields → Bool
  are_same_fields no_fields no_fields = true
  are_same_fields (field j s fs) (field k t gs) =
      bytes_eq j k && is_same s t && are_same_fields fs gs
  are_same_fields _ _ = false
