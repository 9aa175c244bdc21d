-- What bytes are read as.
use Rattle.std.specs.Prelude.{ℕ, pos, List, Option, Some, None, cond}
use Rattle.std.specs.Str.{is_utf8}
use Rattle.serde_json.specs.Data as json
use Rattle.serde_json.specs.Read as json_text
use Rattle.jm_json.specs.Tree.{Tree, null, boolean, number, text, list, object, Trees, no_trees, tree, Fields, no_fields, field}
use Rattle.jm_json.specs.Integers.{first_invalid}

-- the tree of a value all of whose numbers are integers
abbrev mutual
  pub tree_from : json.Data → Tree
  tree_from json.null = null
  tree_from (json.boolean b) = boolean b
  tree_from (json.number (json.unsigned n)) = number (pos n)
  tree_from (json.number (json.negative z)) = number z
  tree_from (json.number (json.float x)) = null
  tree_from (json.string s) = text s
  tree_from (json.array ds) = list (trees_from ds)
  tree_from (json.object ms) = object (fields_from ms)

  pub trees_from : json.Items → Trees
  trees_from json.no_items = no_trees
  trees_from (json.item d ds) = tree (tree_from d) (trees_from ds)

  pub fields_from : json.Members → Fields
  fields_from json.no_members = no_fields
  fields_from (json.member k d ms) = field k (tree_from d) (fields_from ms)

pub data Reading : Type 0 where
  not_json : Reading
  not_whole : List ℕ → Reading
  whole : Tree → Reading

abbrev pub by_number : Option (List ℕ) → json.Data → Reading
by_number (Some path) d = not_whole path
by_number None d = whole (tree_from d)

abbrev pub by_value : Option json.Data → Reading
by_value None = not_json
by_value (Some d) = by_number (first_invalid d) d

abbrev pub reading_of : List ℕ → Reading
reading_of bytes = cond (is_utf8 bytes) (by_value (json_text.read bytes)) not_json
