-- The response to a call of a /get method, as a client reads it (RFC 8620, 5.1). Members of other
-- names are ignored; what else an object has is not looked at here.
use Rattle.std.specs.Prelude.{ℕ, ◌+◌, ◌==◌, List, [], ◌∷◌, ◌++◌, map, filter, length, Bool, not, Option, Some, None, is_some, option_and_then, option_map, codes}
use Rattle.std.specs.List.{fold}
use Rattle.jm_base.specs.Splices.{has}
use Rattle.jm_base.specs.declared.identifiers.Kind.{Kind}
use Rattle.jm_json.specs.Find.{as_list, as_object, find}
use Rattle.jm_json.specs.Json.{tree_of}
use Rattle.jm_json.specs.Tree.{Tree}
use Rattle.method_args.specs.Arguments.{passes}
use Rattle.method_args.specs.Ids.{id_in}
use Rattle.method_args.specs.Places.{at_index, at_name, place_unless, places_in}
use Rattle.reply_readers.specs.Members.{has_text, ids_of, state_of}
use Rattle.reply_readers.specs.declared.objects.ReadObject.{ReadObject}
use Rattle.reply_readers.specs.declared.objects.ReadObjects.{ReadObjects}

-- ---- what the objects are

-- the number of the record of the kind that an object is of
abbrev pub record_number : Kind → List (List ℕ × Tree) → Option ℕ
record_number kind ms = option_and_then (id_in kind) (find (codes "id") ms)

abbrev pub object_number : Kind → Tree → Option ℕ
object_number kind t = option_and_then (record_number kind) (as_object t)

-- objects of records, each with its number; the numbers of records that are not there; the state
pub record Objects : Type 0 where
  pub objects : List (ℕ × Tree)
  pub unknown : List ℕ
  pub state : ℕ

abbrev pub object_of : ReadObject → ℕ × Tree
object_of o = (o.number, tree_of o.object)

abbrev pub objects_of : ReadObjects → Objects
objects_of r = record {
  objects = map object_of r.objects;
  unknown = r.unknown;
  state = r.state;
}

abbrev pub items_of : List ℕ → List (List ℕ × Tree) → Option (List Tree)
items_of name ms = option_and_then as_list (find name ms)

-- the object of a record of the kind, with its number
abbrev pub object_in : Kind → Tree → Option (ℕ × Tree)
object_in kind t = option_map (λ n. (n, t)) (object_number kind t)

-- each object with its number, if each is of a record of the kind
abbrev pub objects_from : Kind → List Tree → Option (List (ℕ × Tree))
objects_from kind [] = Some []
objects_from kind (t ∷ ts) =
    option_and_then (λ o. option_map (λ os. o ∷ os) (objects_from kind ts)) (object_in kind t)

abbrev pub objects_with : List (ℕ × Tree) → List ℕ → ℕ → Objects
objects_with objects unknown state =
    record { objects = objects; unknown = unknown; state = state }

abbrev pub objects_of_members : Kind → List (List ℕ × Tree) → Option Objects
objects_of_members kind ms =
    option_and_then
    (λ objects. option_and_then
    (λ unknown. option_map (objects_with objects unknown) (state_of (codes "state") ms))
    (ids_of kind (codes "notFound") ms))
    (option_and_then (objects_from kind) (items_of (codes "list") ms))

-- the objects of the arguments of a response about records of the kind
abbrev pub objects_in : Kind → Tree → Option Objects
objects_in kind t = option_and_then (objects_of_members kind) (as_object t)

-- ---- each record once

-- the record is one of those that are left
abbrev pub is_left : List ℕ → Option ℕ → Bool
is_left left number = passes (has left) number

-- what is left after a record
abbrev pub left_after : List ℕ → Option ℕ → List ℕ
left_after left None = left
left_after left (Some n) = filter (λ m. not (m == n)) left

-- what is left after the records of values
abbrev pub left_after_all : (Tree → Option ℕ) → List ℕ → List Tree → List ℕ
left_after_all number left ts = fold (λ l t. left_after l (number t)) left ts

abbrev pub left_after_items : (Tree → Option ℕ) → List ℕ → Option (List Tree) → List ℕ
left_after_items number left None = left
left_after_items number left (Some ts) = left_after_all number left ts

-- what is left of the records that were asked for after `list`
abbrev pub left_after_list : Kind → List ℕ → List (List ℕ × Tree) → List ℕ
left_after_list kind asked ms =
    left_after_items (object_number kind) asked (items_of (codes "list") ms)

-- what is left of them after `list` and `notFound`
abbrev pub left_after_both : Kind → List ℕ → List (List ℕ × Tree) → List ℕ
left_after_both kind asked ms =
    left_after_items (id_in kind) (left_after_list kind asked ms) (items_of (codes "notFound") ms)

-- ---- where they are not of their form

-- a value that is no object, or not one of a record that is left
abbrev pub object_places : Kind → List ℕ → List ℕ → Tree → List (List ℕ)
object_places kind p left t =
    places_in (λ ms. place_unless (is_left left (record_number kind ms)) (at_name p (codes "id"))) p
    (as_object t)

-- such values, of which the first has the index
abbrev pub objects_places : Kind → List ℕ → ℕ → List ℕ → List Tree → List (List ℕ)
objects_places kind p index left [] = []
objects_places kind p index left (t ∷ ts) =
    object_places kind (at_index p index) left t
    ++ objects_places kind p (index + 1) (left_after left (object_number kind t)) ts

-- values that are not identifiers of records that are left
abbrev pub unknown_places : Kind → List ℕ → ℕ → List ℕ → List Tree → List (List ℕ)
unknown_places kind p index left [] = []
unknown_places kind p index left (t ∷ ts) =
    place_unless (is_left left (id_in kind t)) (at_index p index)
    ++ unknown_places kind p (index + 1) (left_after left (id_in kind t)) ts

abbrev pub list_places : Kind → List ℕ → List ℕ → List (List ℕ × Tree) → List (List ℕ)
list_places kind asked p ms =
    places_in (objects_places kind (at_name p (codes "list")) 0 asked) (at_name p (codes "list"))
    (items_of (codes "list") ms)

abbrev pub not_found_places : Kind → List ℕ → List ℕ → List (List ℕ × Tree) → List (List ℕ)
not_found_places kind left p ms =
    places_in (unknown_places kind (at_name p (codes "notFound")) 0 left)
    (at_name p (codes "notFound"))
    (items_of (codes "notFound") ms)

-- in both lists; if a record is missing, `list` is a place
abbrev pub both_places : Kind → List ℕ → List ℕ → List (List ℕ × Tree) → List (List ℕ)
both_places kind asked p ms =
    list_places kind asked p ms
    ++ not_found_places kind (left_after_list kind asked ms) p ms
    ++ place_unless (length (left_after_both kind asked ms) == 0) (at_name p (codes "list"))

abbrev pub objects_member_places
    : Kind → List ℕ → List ℕ → List ℕ → List (List ℕ × Tree) → List (List ℕ)
objects_member_places kind account asked p ms =
    place_unless (has_text (codes "accountId") account ms) (at_name p (codes "accountId"))
    ++ both_places kind asked p ms
    ++ place_unless (is_some (state_of (codes "state") ms)) (at_name p (codes "state"))

-- The places at which the arguments, whose pointer is given, are no objects and unknown identifiers
-- of these records of the kind in this account, each once. If a record is missing, `list` is such a
-- place.
abbrev pub objects_reply_places
    : Kind → List ℕ → List ℕ → List ℕ → Tree → List (List ℕ)
objects_reply_places kind account asked p t =
    places_in (objects_member_places kind account asked p) p (as_object t)
