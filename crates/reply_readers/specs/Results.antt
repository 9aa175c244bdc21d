-- The response to a call of a /query method, as a client reads it (RFC 8620, 5.5; RFC 8621, 2.3 and
-- 4.4). Members of other names are ignored.
use Rattle.std.specs.Prelude.{ℕ, List, ◌++◌, Bool, true, nat_le, length, Option, Some, None, is_some, option_and_then, option_map, codes}
use Rattle.jm_base.specs.declared.identifiers.Kind.{Kind}
use Rattle.jm_json.specs.Find.{as_list, as_object, find}
use Rattle.jm_json.specs.Tree.{Tree}
use Rattle.method_args.specs.Places.{at_name, ids_places, member_places, place_unless, places_in}
use Rattle.reply_readers.specs.Members.{flag_of, has_count, has_text, ids_of, state_of}
use Rattle.reply_readers.specs.declared.results.ReadResults.{ReadResults}

-- ---- what the results are

abbrev pub results_with : List ℕ → ℕ → ReadResults
results_with ids state = record { ids = ids; state = state }

abbrev pub results_of_members : Kind → List (List ℕ × Tree) → Option ReadResults
results_of_members kind ms =
    option_and_then (λ ids. option_map (results_with ids) (state_of (codes "queryState") ms))
    (ids_of kind (codes "ids") ms)

-- the results of the arguments of a response about records of the kind
abbrev pub results_in : Kind → Tree → Option ReadResults
results_in kind t = option_and_then (results_of_members kind) (as_object t)

-- ---- where they are not of their form

-- a list has at most so many items; what is no list has none
abbrev pub is_short : ℕ → Option (List Tree) → Bool
is_short limit None = true
is_short limit (Some ts) = nat_le (length ts) limit

abbrev pub has_few : List ℕ → ℕ → List (List ℕ × Tree) → Bool
has_few name limit ms = is_short limit (option_and_then as_list (find name ms))

abbrev pub results_member_places
    : Kind → List ℕ → ℕ → ℕ → List ℕ → List (List ℕ × Tree) → List (List ℕ)
results_member_places kind account position limit p ms =
    place_unless (has_text (codes "accountId") account ms) (at_name p (codes "accountId"))
    ++ place_unless (is_some (flag_of (codes "canCalculateChanges") ms))
    (at_name p (codes "canCalculateChanges"))
    ++ place_unless (has_few (codes "ids") limit ms) (at_name p (codes "ids"))
    ++ member_places (ids_places kind) p (codes "ids") ms
    ++ place_unless (has_count (codes "position") position ms) (at_name p (codes "position"))
    ++ place_unless (is_some (state_of (codes "queryState") ms)) (at_name p (codes "queryState"))

-- The places at which the arguments, whose pointer is given, are no results of a query of the kind
-- in this account from this position on, at most so many.
abbrev pub results_places : Kind → List ℕ → ℕ → ℕ → List ℕ → Tree → List (List ℕ)
results_places kind account position limit p t =
    places_in (results_member_places kind account position limit p) p (as_object t)
