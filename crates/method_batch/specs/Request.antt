-- The form of a request, and why a request of this form is rejected (RFC 8620, sections 3.3 and
-- 3.6.1).
use Rattle.std.specs.Prelude.{ℕ, List, [], ◌∷◌, length, nat_lt, Bool, cond, Option, Some, None, option_map, option_and_then, codes, bytes_eq}
use Rattle.std.specs.List.{list_any, list_all}
use Rattle.jm_json.specs.Tree.{Tree}
use Rattle.jm_json.specs.Find.{find, as_text, as_list, as_object, texts_from}
use Rattle.jm_json.specs.Call.{Call}
use Rattle.jm_json.specs.Calls.{calls_from}
use Rattle.jm_json.specs.declared.invocation.Created.{Created}
use Rattle.method_batch.specs.Method.{is_capability}
use Rattle.method_batch.specs.declared.limits.TheConstants.{MAX_CALLS_PER_REQUEST}
use Rattle.method_batch.specs.declared.request.Request.{Request}
use Rattle.method_batch.specs.declared.outcome.Problem.{Problem}
use Rattle.method_batch.specs.declared.outcome.Problem.TheVariants.{UnknownCapability, TooManyCalls}

-- what members say was created, each name being a creation id: where all values are texts
abbrev pub created_from : List (List ℕ × Tree) → Option (List Created)
created_from [] = Some []
created_from (m ∷ ms) =
    option_and_then
    (λ id. option_map (λ cs. record { creation = m.0; id = id } ∷ cs) (created_from ms))
    (as_text m.1)

abbrev pub request_by : Option (List (List ℕ)) → Option (List Call) → Option (List Created)
    → Option Request
request_by None calls created = None
request_by (Some using) None created = None
request_by (Some using) (Some calls) created =
    Some (record { using = using; calls = calls; created = created })

-- `createdIds` may be absent, and is else an object of texts
abbrev pub request_with : Option Tree → Option (List (List ℕ)) → Option (List Call) → Option Request
request_with None using calls = request_by using calls None
request_with (Some t) using calls =
    option_and_then
    (λ created. request_by using calls (Some created)) (option_and_then created_from (as_object t))

-- `using` is a list of texts and `methodCalls` a list of calls; other members count for nothing
abbrev pub request_in : List (List ℕ × Tree) → Option Request
request_in ms =
    request_with (find (codes "createdIds") ms)
    (option_and_then texts_from (option_and_then as_list (find (codes "using") ms)))
    (option_and_then calls_from (option_and_then as_list (find (codes "methodCalls") ms)))

-- the request that a tree is, if it is one
abbrev pub request_of : Tree → Option Request
request_of t = option_and_then request_in (as_object t)

-- some text of the list is this one
abbrev pub uses : List ℕ → List (List ℕ) → Bool
uses capability using = list_any (λ s. bytes_eq s capability) using

-- each capability must be known, and then the calls may not be too many
abbrev pub problem_in : Request → Option Problem
problem_in r =
    cond (list_all is_capability r.using)
    (cond (nat_lt MAX_CALLS_PER_REQUEST (length r.calls)) (Some TooManyCalls) None)
    (Some UnknownCapability)
