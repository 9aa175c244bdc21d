-- Lists and objects of a response that are null where they would be empty.
use Rattle.std.specs.Prelude.{ℕ, List, [], ◌∷◌}
use Rattle.jm_json.specs.Tree.{Tree, null, list, object, trees_of, fields_of}

-- an object that is null where it would be empty
abbrev pub object_or_null : List (List ℕ × Tree) → Tree
object_or_null [] = null
object_or_null (m ∷ ms) = object (fields_of (m ∷ ms))

-- a list that is null where it would be empty
abbrev pub list_or_null : List Tree → Tree
list_or_null [] = null
list_or_null (t ∷ ts) = list (trees_of (t ∷ ts))
