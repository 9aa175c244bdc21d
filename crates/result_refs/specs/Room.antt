-- The bytes that are counted for a copy of a JSON value: `VALUE_BYTES` for each value in it, and
-- those of its strings and of its keys.
use Rattle.std.specs.Prelude.{ℕ, ◌+◌, length}
use Rattle.jm_json.specs.Tree.{Tree, null, boolean, number, text, list, object, Trees, no_trees, tree, Fields, no_fields, field}
use Rattle.result_refs.specs.declared.room.TheConstants.{VALUE_BYTES}

abbrev mutual
  pub value_bytes : Tree → ℕ
  value_bytes null = VALUE_BYTES
  value_bytes (boolean b) = VALUE_BYTES
  value_bytes (number z) = VALUE_BYTES
  value_bytes (text s) = VALUE_BYTES + length s
  value_bytes (list ts) = VALUE_BYTES + items_bytes ts
  value_bytes (object fs) = VALUE_BYTES + members_bytes fs

  pub items_bytes : Trees → ℕ
  items_bytes no_trees = 0
  items_bytes (tree t ts) = value_bytes t + items_bytes ts

  pub members_bytes : Fields → ℕ
  members_bytes no_fields = 0
  members_bytes (field k t fs) = (length k + value_bytes t) + members_bytes fs
