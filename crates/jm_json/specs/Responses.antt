-- The Response of a request as a tree (RFC 8620, section 3.4), without `createdIds`.
use Rattle.std.specs.Prelude.{ℕ, List, [], ◌∷◌, map, codes}
use Rattle.jm_json.specs.Tree.{Tree, text, list, object, trees_of, fields_of}
use Rattle.jm_json.specs.Call.{Call}

-- a call or a response as it is in a text
abbrev pub call_tree : Call → Tree
call_tree c = list (trees_of (text c.name ∷ c.args ∷ text c.id ∷ []))

-- the Response that has these responses to calls, and this state of the session
abbrev pub responses_tree : List Call → List ℕ → Tree
responses_tree cs state =
    object (fields_of
    ((codes "methodResponses", list (trees_of (map call_tree cs)))
    ∷ (codes "sessionState", text state) ∷ []))
