-- Calls are read of the tree that they are written as.
use Rattle.std.proofs.Common.{◌≡◌, ℕ, List, [], ◌∷◌, map, Some, option_map, option_and_then, codes, refl, ap, ◌∙◌}
use Rattle.jm_json.specs.Tree.{text}
use Rattle.jm_json.specs.Call.{Call}
use Rattle.jm_json.specs.Calls.{calls_from, calls_in_response}
use Rattle.jm_json.specs.Find.{find, as_list, as_object, texts_from}
use Rattle.jm_json.specs.Requests.{texts_tree, calls_tree, request_tree, HaveObjects}
use Rattle.jm_json.specs.Responses.{call_tree, responses_tree}
use Rattle.jm_json.proofs.Lists.{list_of-trees_of}

pub texts_back : (ss : List (List ℕ)) → texts_from (map text ss) ≡ Some ss
texts_back [] = refl
texts_back (s ∷ ss) = ap (option_map (λ (xs : List (List ℕ)). s ∷ xs)) (texts_back ss)

pub calls_back : (cs : List Call) → HaveObjects cs → calls_from (map call_tree cs) ≡ Some cs
calls_back [] h = refl
calls_back (c ∷ cs) h = rw (h.0.1) (ap (option_map (λ (ds : List Call). c ∷ ds)) (calls_back cs h.1))

pub texts_read : (ss : List (List ℕ)) → option_and_then texts_from (as_list (texts_tree ss)) ≡ Some ss
texts_read ss = ap texts_from (list_of-trees_of (map text ss)) ∙ texts_back ss

pub calls_read : (cs : List Call) → HaveObjects cs → option_and_then calls_from (as_list (calls_tree cs)) ≡ Some cs
calls_read cs h = ap calls_from (list_of-trees_of (map call_tree cs)) ∙ calls_back cs h

pub requested : (using : List (List ℕ)) (cs : List Call) → HaveObjects cs
    → option_and_then calls_from (option_and_then as_list (option_and_then (find (codes "methodCalls")) (as_object (request_tree using cs)))) ≡ Some cs
requested using cs h = calls_read cs h

pub responded : (cs : List Call) (state : List ℕ) → HaveObjects cs → calls_in_response (responses_tree cs state) ≡ Some cs
responded cs state h = calls_read cs h
