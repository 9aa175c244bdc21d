-- What a call of a method that changes nothing comes to: the arguments of its response, or an error
-- (RFC 8620, 3.4 and 3.6.2).
use Rattle.std.specs.Prelude.{◌≡◌, ℕ, List, Result, MatchResult, codes, ⊤}
use Rattle.jm_json.specs.Call.{Call, error_of}
use Rattle.jm_json.specs.Json.{tree_of}
use Rattle.jm_json.specs.Tree.{Tree}
use Rattle.jm_json.specs.declared.tree.Json.{Json}
use Rattle.method_args.specs.declared.outcomes.MethodFault.{MethodFault}
use Rattle.method_args.specs.declared.outcomes.MethodFault.TheVariants.{Invalid, UnsupportedFilter, UnsupportedSort, AnchorNotFound, CannotCalculate, TooMany, NoMemory}

-- The arguments of the response; or a fault of the arguments, of the filter or of the sort, by the
-- name of the argument, condition or member at fault, which is empty where a tree itself is; or the
-- anchor is not in the result list; or the changes since a state cannot be calculated, or are more
-- than the maximum.
pub data Outcome : Type 0 where
  replied : (reply : Tree) → Outcome
  invalid_call : (name : List ℕ) → Outcome
  unsupported_filter_call : (name : List ℕ) → Outcome
  unsupported_sort_call : (name : List ℕ) → Outcome
  no_anchor : Outcome
  cannot_tell : Outcome
  too_many_changes : Outcome

-- The response to a call: one of its name with these arguments, or the error.
abbrev pub response_of : Call → Outcome → Call
response_of c (replied reply) = record { name = c.name; args = reply; id = c.id }
response_of c (invalid_call name) = error_of (codes "invalidArguments") c.id
response_of c (unsupported_filter_call name) = error_of (codes "unsupportedFilter") c.id
response_of c (unsupported_sort_call name) = error_of (codes "unsupportedSort") c.id
response_of c no_anchor = error_of (codes "anchorNotFound") c.id
response_of c cannot_tell = error_of (codes "cannotCalculateChanges") c.id
response_of c too_many_changes = error_of (codes "tooManyChanges") c.id

-- why there is no response of the method; out of memory explains itself
abbrev pub ExplainsCall : MethodFault → Outcome → Type 0
ExplainsCall (Invalid name) o = o ≡ invalid_call name
ExplainsCall (UnsupportedFilter name) o = o ≡ unsupported_filter_call name
ExplainsCall (UnsupportedSort name) o = o ≡ unsupported_sort_call name
ExplainsCall AnchorNotFound o = o ≡ no_anchor
ExplainsCall CannotCalculate o = o ≡ cannot_tell
ExplainsCall TooMany o = o ≡ too_many_changes
ExplainsCall NoMemory o = ⊤

-- a method returned this outcome
abbrev pub IsOutcomeOf : Result Json MethodFault → Outcome → Type 0
IsOutcomeOf returned o =
    MatchResult returned (λ j. o ≡ replied (tree_of j)) (λ e. ExplainsCall e o)
