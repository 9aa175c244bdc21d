-- The response to a call of a /queryChanges method, as a client reads it (RFC 8620, 5.6; RFC 8621,
-- 2.4 and 4.5). Members of other names are ignored.
use Rattle.std.specs.Prelude.{ℕ, List, ◌++◌, Option, is_some, option_and_then, option_map, codes}
use Rattle.jm_base.specs.declared.identifiers.AddedItem.{AddedItem}
use Rattle.jm_base.specs.declared.identifiers.Kind.{Kind}
use Rattle.jm_json.specs.Find.{as_object, find}
use Rattle.jm_json.specs.Tree.{Tree}
use Rattle.method_args.specs.Added.{added_in}
use Rattle.method_args.specs.Places.{added_places, at_name, ids_places, member_places, place_unless, places_in}
use Rattle.reply_readers.specs.Members.{has_state, has_text, ids_of, state_of}
use Rattle.reply_readers.specs.declared.deltas.ReadDelta.{ReadDelta}

-- ---- what the changes are

-- the records of a list with their indices
abbrev pub added_of : Kind → List ℕ → List (List ℕ × Tree) → Option (List AddedItem)
added_of kind name ms = option_and_then (added_in kind) (find name ms)

abbrev pub delta_with : List AddedItem → List ℕ → ℕ → ReadDelta
delta_with added removed state =
    record { added = added; removed = removed; new_state = state }

abbrev pub delta_of_members : Kind → List (List ℕ × Tree) → Option ReadDelta
delta_of_members kind ms =
    option_and_then
    (λ added. option_and_then
    (λ removed. option_map (delta_with added removed) (state_of (codes "newQueryState") ms))
    (ids_of kind (codes "removed") ms))
    (added_of kind (codes "added") ms)

-- the changes of the arguments of a response about records of the kind
abbrev pub delta_in : Kind → Tree → Option ReadDelta
delta_in kind t = option_and_then (delta_of_members kind) (as_object t)

-- ---- where they are not of their form

abbrev pub delta_member_places
    : Kind → List ℕ → ℕ → List ℕ → List (List ℕ × Tree) → List (List ℕ)
delta_member_places kind account since p ms =
    place_unless (has_text (codes "accountId") account ms) (at_name p (codes "accountId"))
    ++ member_places (added_places kind) p (codes "added") ms
    ++ place_unless (is_some (state_of (codes "newQueryState") ms)) (at_name p (codes "newQueryState"))
    ++ place_unless (has_state (codes "oldQueryState") since ms) (at_name p (codes "oldQueryState"))
    ++ member_places (ids_places kind) p (codes "removed") ms

-- The places at which the arguments, whose pointer is given, are no changes of a query's results of
-- the kind in this account since this state.
abbrev pub delta_places : Kind → List ℕ → ℕ → List ℕ → Tree → List (List ℕ)
delta_places kind account since p t =
    places_in (delta_member_places kind account since p) p (as_object t)
