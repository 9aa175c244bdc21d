-- Where the values of a response are not of their form. A place is the JSON Pointer (RFC 6901) of a
-- value; of a member that is missing it is the pointer that the member would have. Each definition
-- takes the pointer of the value, or of the object, that it looks into.
use Rattle.std.specs.Prelude.{ℕ, ◌+◌, List, [], ◌∷◌, ◌++◌, Bool, true, false, Option, Some, None, is_some, codes, decimal}
use Rattle.jm_base.specs.declared.identifiers.Kind.{Kind}
use Rattle.jm_json.specs.Find.{as_list, as_object, find}
use Rattle.jm_json.specs.Integers.{pointer_part}
use Rattle.jm_json.specs.Tree.{Tree}
use Rattle.method_args.specs.Added.{added_index, added_number}
use Rattle.method_args.specs.Ids.{id_in}

-- the pointer of the member with a name, and of the item with an index
abbrev pub at_name : List ℕ → List ℕ → List ℕ
at_name pointer name = pointer ++ 47 ∷ pointer_part name

abbrev pub at_index : List ℕ → ℕ → List ℕ
at_index pointer index = pointer ++ 47 ∷ decimal index

-- the place, unless the value there is of its form
abbrev pub place_unless : Bool → List ℕ → List (List ℕ)
place_unless true pointer = []
place_unless false pointer = pointer ∷ []

-- the places in a value, if there is one, else the value's own
abbrev pub places_in : {A : Type 0} → (A → List (List ℕ)) → List ℕ → Option A → List (List ℕ)
places_in f pointer None = pointer ∷ []
places_in f pointer (Some x) = f x

-- the places in the value of a member
abbrev pub member_places
    : (List ℕ → Tree → List (List ℕ)) → List ℕ → List ℕ → List (List ℕ × Tree) → List (List ℕ)
member_places f pointer name ms =
    places_in (f (at_name pointer name)) (at_name pointer name) (find name ms)

-- the places in the items of a list, of which the first has the index
abbrev pub item_places
    : (List ℕ → Tree → List (List ℕ)) → List ℕ → ℕ → List Tree → List (List ℕ)
item_places f pointer index [] = []
item_places f pointer index (t ∷ ts) =
    f (at_index pointer index) t ++ item_places f pointer (index + 1) ts

-- the places in a list, each of whose items has places
abbrev pub list_places : (List ℕ → Tree → List (List ℕ)) → List ℕ → Tree → List (List ℕ)
list_places f pointer t = places_in (item_places f pointer 0) pointer (as_list t)

-- a value that is no identifier of a record of the kind
abbrev pub id_places : Kind → List ℕ → Tree → List (List ℕ)
id_places kind pointer t = place_unless (is_some (id_in kind t)) pointer

-- a value that is no list of such identifiers: itself, or each item that is none
abbrev pub ids_places : Kind → List ℕ → Tree → List (List ℕ)
ids_places kind = list_places (id_places kind)

-- a value that is no record with its index: itself, or its identifier, its index or both
abbrev pub added_member_places : Kind → List ℕ → List (List ℕ × Tree) → List (List ℕ)
added_member_places kind pointer ms =
    place_unless (is_some (added_number kind ms)) (at_name pointer (codes "id"))
    ++ place_unless (is_some (added_index ms)) (at_name pointer (codes "index"))

abbrev pub added_item_places : Kind → List ℕ → Tree → List (List ℕ)
added_item_places kind pointer t =
    places_in (added_member_places kind pointer) pointer (as_object t)

-- a value that is no list of such records
abbrev pub added_places : Kind → List ℕ → Tree → List (List ℕ)
added_places kind = list_places (added_item_places kind)
