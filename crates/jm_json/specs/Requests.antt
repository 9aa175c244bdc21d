-- The trees of the members of a request, and of a request (RFC 8620, section 3.3).
use Rattle.std.specs.Prelude.{◌≡◌, ⊤, ℕ, List, [], ◌∷◌, map, Some, codes}
use Rattle.jm_json.specs.Tree.{Tree, text, list, object, trees_of, fields_of}
use Rattle.jm_json.specs.Call.{Call}
use Rattle.jm_json.specs.Find.{as_object}
use Rattle.jm_json.specs.Responses.{call_tree}

abbrev pub texts_tree : List (List ℕ) → Tree
texts_tree ss = list (trees_of (map text ss))

abbrev pub calls_tree : List Call → Tree
calls_tree cs = list (trees_of (map call_tree cs))

-- the request that uses these capabilities and has these calls, without `createdIds`
abbrev pub request_tree : List (List ℕ) → List Call → Tree
request_tree using calls =
    object
    (fields_of ((codes "methodCalls", calls_tree calls) ∷ (codes "using", texts_tree using) ∷ []))

-- the arguments of each call are an object
abbrev pub HaveObjects : List Call → Type 0
HaveObjects [] = ⊤
HaveObjects (c ∷ cs) =
    ((ms : List (List ℕ × Tree)) × (as_object c.args ≡ Some ms)) × HaveObjects cs
