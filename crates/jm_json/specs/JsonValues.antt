-- The JSON value that a tree is, as a type of `serde_json`.
use Rattle.serde_json.specs.Data as json
use Rattle.serde_json.specs.Find.{of_integer}
use Rattle.jm_json.specs.Tree.{Tree, null, boolean, number, text, list, object, Trees, no_trees, tree, Fields, no_fields, field}

abbrev mutual
  pub data_of : Tree → json.Data
  data_of null = json.null
  data_of (boolean b) = json.boolean b
  data_of (number z) = json.number (of_integer z)
  data_of (text s) = json.string s
  data_of (list ts) = json.array (items_of ts)
  data_of (object fs) = json.object (members_of fs)

  pub items_of : Trees → json.Items
  items_of no_trees = json.no_items
  items_of (tree t ts) = json.item (data_of t) (items_of ts)

  pub members_of : Fields → json.Members
  members_of no_fields = json.no_members
  members_of (field k t fs) = json.member k (data_of t) (members_of fs)
