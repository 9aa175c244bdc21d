-- Looking into an object.
use Rattle.std.specs.Prelude.{ℕ, List, [], ◌∷◌, Option, Some, None, option_map, option_and_then, cond, bytes_eq}
use Rattle.jm_json.specs.Tree.{Tree, null, boolean, number, text, list, object, Trees, no_trees, tree, Fields, no_fields, field}

-- the value at a key
abbrev pub find : List ℕ → List (List ℕ × Tree) → Option Tree
find k [] = None
find k (m ∷ ms) = cond (bytes_eq m.0 k) (Some m.1) (find k ms)

abbrev pub list_of : Trees → List Tree
list_of no_trees = []
list_of (tree t ts) = t ∷ list_of ts

abbrev pub pairs_of : Fields → List (List ℕ × Tree)
pairs_of no_fields = []
pairs_of (field k t fs) = (k, t) ∷ pairs_of fs

abbrev pub as_text : Tree → Option (List ℕ)
as_text null = None
as_text (boolean b) = None
as_text (number z) = None
as_text (text s) = Some s
as_text (list ts) = None
as_text (object fs) = None

abbrev pub as_list : Tree → Option (List Tree)
as_list null = None
as_list (boolean b) = None
as_list (number z) = None
as_list (text s) = None
as_list (list ts) = Some (list_of ts)
as_list (object fs) = None

abbrev pub as_object : Tree → Option (List (List ℕ × Tree))
as_object null = None
as_object (boolean b) = None
as_object (number z) = None
as_object (text s) = None
as_object (list ts) = None
as_object (object fs) = Some (pairs_of fs)

-- the texts of a list all of whose items are texts
abbrev pub texts_from : List Tree → Option (List (List ℕ))
texts_from [] = Some []
texts_from (t ∷ ts) = option_and_then (λ s. option_map (λ ss. s ∷ ss) (texts_from ts)) (as_text t)
