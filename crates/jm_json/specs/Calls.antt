-- The calls of a request, and the responses of a Response, in their trees (RFC 8620, sections 3.2
-- to 3.4).
use Rattle.std.specs.Prelude.{ℕ, List, [], ◌∷◌, Option, Some, None, option_map, option_and_then, codes}
use Rattle.jm_json.specs.Tree.{Tree}
use Rattle.jm_json.specs.Find.{find, as_text, as_list, as_object}
use Rattle.jm_json.specs.Call.{Call}

abbrev pub call_of_parts : Option (List ℕ) → Option (List (List ℕ × Tree)) → Tree → Option (List ℕ)
    → Option Call
call_of_parts None members args id = None
call_of_parts (Some name) None args id = None
call_of_parts (Some name) (Some members) args None = None
call_of_parts (Some name) (Some members) args (Some id) =
    Some (record { name = name; args = args; id = id })

-- a call is a list of a text, an object and a text
abbrev pub call_of_items : List Tree → Option Call
call_of_items [] = None
call_of_items (a ∷ []) = None
call_of_items (a ∷ b ∷ []) = None
call_of_items (a ∷ b ∷ c ∷ []) = call_of_parts (as_text a) (as_object b) b (as_text c)
call_of_items (a ∷ b ∷ c ∷ d ∷ ts) = None

abbrev pub call_from : Tree → Option Call
call_from t = option_and_then call_of_items (as_list t)

-- the calls of a list all of whose items are calls
abbrev pub calls_from : List Tree → Option (List Call)
calls_from [] = Some []
calls_from (t ∷ ts) = option_and_then (λ c. option_map (λ cs. c ∷ cs) (calls_from ts)) (call_from t)

-- the responses to calls of a Response: an object whose `methodResponses` is a list of them; other
-- members count for nothing
abbrev pub calls_in_response : Tree → Option (List Call)
calls_in_response t =
    option_and_then calls_from
    (option_and_then as_list (option_and_then (find (codes "methodResponses")) (as_object t)))
