-- Which trees are lists of comparators, what they are, and the first fault of a tree that is none
-- (RFC 8620, 5.5). A member of a wrong kind is `invalidArguments`; then a property or a collation
-- that is not known is `unsupportedSort`. Members of other names are ignored.
use Rattle.std.specs.Prelude.{◌≡◌, ℕ, List, [], ◌∷◌, Bool, true, false, cond, Option, Some, None, codes, bytes_eq, option_and_then, option_map, ⊤}
use Rattle.std.specs.Option.{option_or, unwrap_or}
use Rattle.std.specs.Str.{str_to_ascii_lowercase}
use Rattle.jm_base.specs.declared.identifiers.Kind.{Kind}
use Rattle.jm_json.specs.Tree.{Tree, null, boolean, number, text, list, object}
use Rattle.jm_json.specs.Find.{as_object, find, list_of}
use Rattle.method_args.specs.Arguments.{Form, as_flag, find_invalid, text_in}
use Rattle.method_args.specs.declared.form.Presence.TheVariants.{Optional, Required}
use Rattle.method_args.specs.declared.form.Shape.TheVariants.{Flag, String}
use Rattle.filter_terms.specs.declared.faults.TermFault.{TermFault}
use Rattle.filter_terms.specs.declared.faults.TermFault.TheVariants.{Invalid, Unsupported, NoMemory}
use Rattle.sort_terms.specs.Properties.{needs_keyword, property_named}
use Rattle.sort_terms.specs.declared.comparators.Comparator.{Comparator}
use Rattle.sort_terms.specs.declared.properties.Property.{Property}

-- the property that a comparator names, if the kind has it
abbrev pub property_in : Kind → List (List ℕ × Tree) → Option Property
property_in kind ms = option_and_then (property_named kind) (text_in (codes "property") ms)

-- what comparators have, in byte order of the names; a keyword is looked at where it is needed
abbrev pub plain_forms : List Form
plain_forms =
    record { name = codes "collation"; presence = Optional; shape = String }
    ∷ record { name = codes "isAscending"; presence = Optional; shape = Flag }
    ∷ record { name = codes "property"; presence = Required; shape = String } ∷ []

abbrev pub keyword_forms : List Form
keyword_forms =
    record { name = codes "collation"; presence = Optional; shape = String }
    ∷ record { name = codes "isAscending"; presence = Optional; shape = Flag }
    ∷ record { name = codes "keyword"; presence = Required; shape = String }
    ∷ record { name = codes "property"; presence = Required; shape = String } ∷ []

abbrev pub forms_for : Bool → List Form
forms_for true = keyword_forms
forms_for false = plain_forms

-- the first member of a comparator that is missing or of a wrong kind
abbrev pub invalid_member : Kind → List (List ℕ × Tree) → Option (List ℕ)
invalid_member kind ms = find_invalid (forms_for (needs_keyword (property_in kind ms))) ms

-- the name is empty where the comparator is no object
abbrev pub invalid_comparator : Kind → Option (List (List ℕ × Tree)) → Option (List ℕ)
invalid_comparator kind None = Some []
invalid_comparator kind (Some ms) = invalid_member kind ms

abbrev pub invalid_items : Kind → List Tree → Option (List ℕ)
invalid_items kind [] = None
invalid_items kind (t ∷ ts) =
    option_or (invalid_comparator kind (as_object t)) (invalid_items kind ts)

-- the name is empty where the tree is neither null nor a list
abbrev pub invalid : Kind → Tree → Option (List ℕ)
invalid kind null = None
invalid kind (boolean b) = Some []
invalid kind (number z) = Some []
invalid kind (text s) = Some []
invalid kind (list ts) = invalid_items kind (list_of ts)
invalid kind (object fs) = Some []

-- the one collation (RFC 4790, 9.2) is also the one that is taken where none is named
abbrev pub if_collation : Option (List ℕ) → Option (List ℕ)
if_collation None = None
if_collation (Some name) =
    cond (bytes_eq name (codes "i;ascii-casemap")) None (Some (codes "collation"))

abbrev pub if_property : Option Property → Option (List ℕ)
if_property None = Some (codes "property")
if_property (Some property) = None

-- the first member of a comparator that no sort has
abbrev pub unsupported_member : Kind → List (List ℕ × Tree) → Option (List ℕ)
unsupported_member kind ms =
    option_or (if_collation (text_in (codes "collation") ms)) (if_property (property_in kind ms))

abbrev pub unsupported_comparator : Kind → Option (List (List ℕ × Tree)) → Option (List ℕ)
unsupported_comparator kind None = None
unsupported_comparator kind (Some ms) = unsupported_member kind ms

abbrev pub unsupported_items : Kind → List Tree → Option (List ℕ)
unsupported_items kind [] = None
unsupported_items kind (t ∷ ts) =
    option_or (unsupported_comparator kind (as_object t)) (unsupported_items kind ts)

abbrev pub unsupported : Kind → Tree → Option (List ℕ)
unsupported kind null = None
unsupported kind (boolean b) = None
unsupported kind (number z) = None
unsupported kind (text s) = None
unsupported kind (list ts) = unsupported_items kind (list_of ts)
unsupported kind (object fs) = None

-- the tree is an order of the kind
abbrev pub IsOrder : Kind → Tree → Type 0
IsOrder kind t = (invalid kind t ≡ None) × (unsupported kind t ≡ None)

-- reading the tree fails with this fault
abbrev pub Refuses : Kind → Tree → TermFault → Type 0
Refuses kind t (Invalid name) = invalid kind t ≡ Some name
Refuses kind t (Unsupported name) = (invalid kind t ≡ None) × (unsupported kind t ≡ Some name)
Refuses kind t NoMemory = ⊤

-- ascending, unless `isAscending` is false
abbrev pub is_ascending : List (List ℕ × Tree) → Bool
is_ascending ms = unwrap_or (option_and_then as_flag (find (codes "isAscending") ms)) true

-- the keyword in lower case, in which keywords are kept, or nothing
abbrev pub keyword_in : List (List ℕ × Tree) → List ℕ
keyword_in ms = unwrap_or (option_map str_to_ascii_lowercase (text_in (codes "keyword") ms)) []

-- the comparator that an object is
abbrev pub comparator_with : List (List ℕ × Tree) → Property → Comparator
comparator_with ms property =
    record { property = property; ascending = is_ascending ms; keyword = keyword_in ms }

abbrev pub comparator_in : Kind → List (List ℕ × Tree) → Option Comparator
comparator_in kind ms = option_map (comparator_with ms) (property_in kind ms)

abbrev pub comparator_of : Kind → Tree → Option Comparator
comparator_of kind t = option_and_then (comparator_in kind) (as_object t)

-- with this comparator first, if there is one
abbrev pub if_any : Option Comparator → List Comparator → List Comparator
if_any None cs = cs
if_any (Some c) cs = c ∷ cs

abbrev pub comparators_from : Kind → List Tree → List Comparator
comparators_from kind [] = []
comparators_from kind (t ∷ ts) = if_any (comparator_of kind t) (comparators_from kind ts)

-- the comparators of an order; null and an empty list have none
abbrev pub comparators_of : Kind → Tree → List Comparator
comparators_of kind null = []
comparators_of kind (boolean b) = []
comparators_of kind (number z) = []
comparators_of kind (text s) = []
comparators_of kind (list ts) = comparators_from kind (list_of ts)
comparators_of kind (object fs) = []
