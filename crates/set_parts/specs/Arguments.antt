-- The arguments that sets have in common (RFC 8620, 5.3).
use Rattle.std.specs.Prelude.{ℕ, ◌+◌, List, [], ◌∷◌, ◌++◌, length, map, Option, unwrap_or, option_map, codes}
use Rattle.std.specs.List.{filter_map}
use Rattle.jm_json.specs.Tree.{Tree}
use Rattle.jm_json.specs.Find.{as_object}
use Rattle.method_args.specs.Arguments.{Form, object_in, strings_in, text_in}
use Rattle.method_args.specs.declared.form.Presence.TheVariants.{Required, Nullable}
use Rattle.method_args.specs.declared.form.Shape.TheVariants.{String, Strings, Object, Objects}

-- a create: its creation id, and the members of its object
pub record Create : Type 0 where
  pub creation : List ℕ
  pub members : List (List ℕ × Tree)

-- an update: the id as it was sent, and the patch, which may be any value
pub record Update : Type 0 where
  pub id : List ℕ
  pub patch : Tree

-- the arguments of every set in byte order, but for `update`
abbrev pub first_forms : List Form
first_forms =
    record { name = codes "accountId"; presence = Required; shape = String }
    ∷ record { name = codes "create"; presence = Nullable; shape = Objects }
    ∷ record { name = codes "destroy"; presence = Nullable; shape = Strings }
    ∷ record { name = codes "ifInState"; presence = Nullable; shape = String }
    ∷ []

-- The form of `update`. A value of it may be any: it is the patch of one object, and is rejected
-- with that object.
abbrev pub update_form : Form
update_form = record { name = codes "update"; presence = Nullable; shape = Object }

-- The arguments of a set in byte order, in which they are checked, with those that only sets of its
-- kind have.
abbrev pub set_forms_with : List Form → List Form
set_forms_with own = first_forms ++ (own ++ update_form ∷ [])

-- the arguments of a set whose kind has none of its own
abbrev pub set_forms : List Form
set_forms = set_forms_with []

-- the id of the account
abbrev pub account_in : List (List ℕ × Tree) → List ℕ
account_in ms = unwrap_or (text_in (codes "accountId") ms) []

-- the state that the client asks for
abbrev pub if_in_state : List (List ℕ × Tree) → Option (List ℕ)
if_in_state ms = text_in (codes "ifInState") ms

-- a create of an object's member
abbrev pub create_in : List ℕ × Tree → Option Create
create_in m = option_map (λ ms. record { creation = m.0; members = ms }) (as_object m.1)

-- the creates in an argument of this name, in byte order of their creation ids
abbrev pub creates_named : List ℕ → List (List ℕ × Tree) → List Create
creates_named name ms = filter_map create_in (unwrap_or (object_in name ms) [])

abbrev pub creates_in : List (List ℕ × Tree) → List Create
creates_in ms = creates_named (codes "create") ms

-- the updates, in byte order of the ids as they were sent
abbrev pub update_in : List ℕ × Tree → Update
update_in m = record { id = m.0; patch = m.1 }

abbrev pub updates_in : List (List ℕ × Tree) → List Update
updates_in ms = map update_in (unwrap_or (object_in (codes "update") ms) [])

-- the ids to destroy, in the order of the list, repeated ones too
abbrev pub destroys_in : List (List ℕ × Tree) → List (List ℕ)
destroys_in ms = unwrap_or (strings_in (codes "destroy") ms) []

-- how many objects a set names: its creates, updates and destroys together (RFC 8620, 2:
-- maxObjectsInSet)
abbrev pub count_objects : List (List ℕ × Tree) → ℕ
count_objects ms = length (creates_in ms) + length (updates_in ms) + length (destroys_in ms)
