-- JSON trees for objects of many kinds.
use Rattle.std.specs.Prelude.{ℕ, List, [], ◌∷◌, ◌++◌, map, decimal, Option, Some, None}
use Rattle.jm_json.specs.Tree.{Tree, null, text, list, object, trees_of, fields_of}
use Rattle.jm_json.specs.Order.{put}

-- the members put into others one after the other; each key is there once, in byte order
abbrev pub put_all : List (List ℕ × Tree) → List (List ℕ × Tree) → List (List ℕ × Tree)
put_all [] members = members
put_all (m ∷ more) members = put_all more (put m.0 m.1 members)

abbrev pub members_tree : List (List ℕ × Tree) → Tree
members_tree members = object (fields_of (put_all members []))

abbrev pub list_tree : List Tree → Tree
list_tree trees = list (trees_of trees)

-- the texts of a list, or null where there is none
abbrev pub texts_or_null : Option (List (List ℕ)) → Tree
texts_or_null None = null
texts_or_null (Some texts) = list_tree (map text texts)

-- a number as a text, or null
abbrev pub decimal_or_null : Option ℕ → Tree
decimal_or_null None = null
decimal_or_null (Some n) = text (decimal n)
