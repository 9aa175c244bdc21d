-- Where the tree of a cache's file is not of its form. A place is the JSON Pointer (RFC 6901) of a
-- value; of a member that is missing it is the pointer that the member would have. Other members
-- are ignored.
use Rattle.std.specs.Prelude.{ℕ, List, [], ◌∷◌, ◌++◌, length, nat_le, nat_lt, Bool, true, not, ◌&&◌, Option, Some, None, is_some, is_none, option_and_then, bytes_eq, codes}
use Rattle.std.specs.List.{list_any}
use Rattle.serde_json.specs.Written.{compact_text}
use Rattle.jm_base.specs.declared.identifiers.Kind.{Kind}
use Rattle.jm_base.specs.declared.identifiers.Kind.TheVariants.{Mailbox as OfMailbox, Email as OfEmail, Thread as OfThread}
use Rattle.jm_json.specs.Depth.{depth_of}
use Rattle.jm_json.specs.Find.{as_list, as_object}
use Rattle.jm_json.specs.JsonValues.{data_of}
use Rattle.jm_json.specs.Reading.{Reading, not_json, not_whole, whole, reading_of}
use Rattle.jm_json.specs.Tree.{Tree}
use Rattle.method_args.specs.Arguments.{passes, text_in}
use Rattle.method_args.specs.Ids.{id_number, state_in}
use Rattle.method_args.specs.Places.{at_index, at_name, ids_places, place_unless, places_in}
use Rattle.mail_view.specs.RecordPlaces.{Form, flag_places, nullable_places, object_places, record_places, string_places}
use Rattle.filter_terms.specs.Forms as Filters
use Rattle.sort_terms.specs.Forms as Orders
use Rattle.client_cache.specs.declared.limits.TheConstants.{MAX_LISTS, MAX_TERM_BYTES, MAX_TERM_DEPTH}

-- ---- records of a kind

-- a state, or null
abbrev pub state_places : Form
state_places = nullable_places (λ p t. place_unless (is_some (state_in t)) p)

-- an identifier of the kind, and the object of a record
abbrev pub entry_places : Kind → List ℕ → List (List ℕ × Tree) → List (List ℕ)
entry_places kind p [] = []
entry_places kind p (m ∷ ms) =
    place_unless (is_some (id_number kind m.0)) (at_name p m.0)
    ++ (record_places kind (at_name p m.0) m.1 ++ entry_places kind p ms)

abbrev pub records_places : Kind → Form
records_places kind p t = places_in (entry_places kind p) p (as_object t)

abbrev pub kind_places : Kind → Form
kind_places kind =
    object_places ((codes "list", records_places kind) ∷ (codes "state", state_places) ∷ [])

-- ---- lists

-- it nests no deeper than a filter or a sort may, and its text is no longer
abbrev pub is_small : Tree → Bool
is_small t =
    nat_le (depth_of t) MAX_TERM_DEPTH && nat_le (length (compact_text (data_of t))) MAX_TERM_BYTES

-- a filter, and a sort, that an Email/query takes
abbrev pub known_filter : Tree → Bool
known_filter t = is_none (Filters.invalid OfEmail t) && is_none (Filters.unsupported OfEmail t)

abbrev pub known_sort : Tree → Bool
known_sort t = is_none (Orders.invalid OfEmail t) && is_none (Orders.unsupported OfEmail t)

abbrev pub is_filter : Tree → Bool
is_filter t = is_small t && known_filter t

abbrev pub is_sort : Tree → Bool
is_sort t = is_small t && known_sort t

abbrev pub filter_places : Form
filter_places p t = place_unless (is_filter t) p

abbrev pub sort_places : Form
sort_places p t = place_unless (is_sort t) p

abbrev pub first_list_forms : List (List ℕ × Form)
first_list_forms =
    (codes "collapse", flag_places)
    ∷ (codes "filter", filter_places)
    ∷ (codes "ids", ids_places OfEmail)
    ∷ []

abbrev pub last_list_forms : List (List ℕ × Form)
last_list_forms =
    (codes "name", string_places) ∷ (codes "sort", sort_places) ∷ (codes "state", state_places) ∷ []

abbrev pub list_forms : List (List ℕ × Form)
list_forms = first_list_forms ++ last_list_forms

-- the name of a list
abbrev pub name_in : Tree → Option (List ℕ)
name_in t = option_and_then (text_in (codes "name")) (as_object t)

abbrev pub is_name_of : List ℕ → Option (List ℕ) → Bool
is_name_of name other = passes (bytes_eq name) other

-- the lists before are fewer than a cache may have, and none of them has the name
abbrev pub is_new_name : List (Option (List ℕ)) → Option (List ℕ) → Bool
is_new_name before None = true
is_new_name before (Some name) =
    nat_lt (length before) MAX_LISTS && not (list_any (is_name_of name) before)

-- a list, after lists with these names
abbrev pub list_item_places : List (Option (List ℕ)) → Form
list_item_places before p t =
    object_places list_forms p t
    ++ place_unless (is_new_name before (name_in t)) (at_name p (codes "name"))

abbrev pub list_items_places
    : List ℕ → List (Option (List ℕ)) → List Tree → List (List ℕ)
list_items_places p before [] = []
list_items_places p before (t ∷ ts) =
    list_item_places before (at_index p (length before)) t
    ++ list_items_places p (before ++ name_in t ∷ []) ts

abbrev pub lists_places : Form
lists_places p t = places_in (list_items_places p []) p (as_list t)

-- ---- the cache

abbrev pub cache_forms : List (List ℕ × Form)
cache_forms =
    (codes "account", nullable_places string_places)
    ∷ (codes "email", kind_places OfEmail)
    ∷ (codes "lists", lists_places)
    ∷ (codes "mailbox", kind_places OfMailbox)
    ∷ (codes "thread", kind_places OfThread)
    ∷ []

-- the places in the tree of a cache's file at which it is not of its form; none if it is
abbrev pub cache_places : Tree → List (List ℕ)
cache_places t = object_places cache_forms [] t

-- The places in a text. What is no JSON has that of the whole, which is empty, and a number that is
-- no integer (RFC 8620, 1.3) its own.
abbrev pub places_of_reading : Reading → List (List ℕ)
places_of_reading not_json = [] ∷ []
places_of_reading (not_whole place) = place ∷ []
places_of_reading (whole t) = cache_places t

abbrev pub text_places : List ℕ → List (List ℕ)
text_places bytes = places_of_reading (reading_of bytes)
