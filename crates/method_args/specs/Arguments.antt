-- The arguments of a method call: the members of an object, by name (RFC 8620, 3.2 and 5). Members
-- of names that a method does not have are ignored.
use Rattle.std.specs.Prelude.{ℕ, ℤ, pos, negsuc, List, [], ◌∷◌, Bool, true, false, ◌&&◌, ◌||◌, Option, Some, None, is_some, option_and_then, if◌then◌else◌, codes}
use Rattle.std.specs.List.{list_all}
use Rattle.jm_json.specs.Tree.{Tree, null, boolean, number, text, list, object}
use Rattle.jm_json.specs.Find.{find, as_text, as_list, as_object, texts_from}
use Rattle.method_args.specs.declared.form.Argument.{Argument}
use Rattle.method_args.specs.declared.form.Presence.{Presence}
use Rattle.method_args.specs.declared.form.Presence.TheVariants.{Required, Optional, Nullable}
use Rattle.method_args.specs.declared.form.Shape.{Shape}
use Rattle.method_args.specs.declared.form.Shape.TheVariants.{String, Strings, Flag, Integer, Count, Object, Objects}

-- ---- values

abbrev pub is_null : Tree → Bool
is_null null = true
is_null (boolean b) = false
is_null (number z) = false
is_null (text s) = false
is_null (list ts) = false
is_null (object fs) = false

-- the strings of a list of strings
abbrev pub as_strings : Tree → Option (List (List ℕ))
as_strings t = option_and_then texts_from (as_list t)

abbrev pub as_flag : Tree → Option Bool
as_flag null = None
as_flag (boolean b) = Some b
as_flag (number z) = None
as_flag (text s) = None
as_flag (list ts) = None
as_flag (object fs) = None

-- an integer (RFC 8620, 1.3: `Int`)
abbrev pub number_of : Tree → Option ℤ
number_of null = None
number_of (boolean b) = None
number_of (number z) = Some z
number_of (text s) = None
number_of (list ts) = None
number_of (object fs) = None

abbrev pub if_unsigned : ℤ → Option ℕ
if_unsigned (pos n) = Some n
if_unsigned (negsuc n) = None

-- an integer from 0 on (RFC 8620, 1.3: `UnsignedInt`)
abbrev pub as_count : Tree → Option ℕ
as_count t = option_and_then if_unsigned (number_of t)

-- each member's value is an object
abbrev pub are_objects : List (List ℕ × Tree) → Bool
are_objects members = list_all (λ m. is_some (as_object m.1)) members

-- ---- forms

-- there is a value, and it passes the test
abbrev pub passes : {A : Type 0} → (A → Bool) → Option A → Bool
passes test None = false
passes test (Some x) = test x

-- the value has the shape
abbrev pub has_shape : Shape → Tree → Bool
has_shape String t = is_some (as_text t)
has_shape Strings t = is_some (as_strings t)
has_shape Flag t = is_some (as_flag t)
has_shape Integer t = is_some (number_of t)
has_shape Count t = is_some (as_count t)
has_shape Object t = is_some (as_object t)
has_shape Objects t = passes are_objects (as_object t)

abbrev pub may_be_absent : Presence → Bool
may_be_absent Required = false
may_be_absent Optional = true
may_be_absent Nullable = true

abbrev pub may_be_null : Presence → Bool
may_be_null Required = false
may_be_null Optional = false
may_be_null Nullable = true

-- the value of an argument, or its absence, is of the argument's form
abbrev pub has_form : Presence → Shape → Option Tree → Bool
has_form presence shape None = may_be_absent presence
has_form presence shape (Some t) = is_null t && may_be_null presence || has_shape shape t

-- an argument of a method
pub record Form : Type 0 where
  pub name : List ℕ
  pub presence : Presence
  pub shape : Shape

abbrev pub form_of : Argument → Form
form_of a = record { name = a.name.now; presence = a.presence; shape = a.shape }

-- The name of the first argument, in the order of the forms, that does not have its form (RFC 8620,
-- 3.6.2: `invalidArguments`).
abbrev pub find_invalid : List Form → List (List ℕ × Tree) → Option (List ℕ)
find_invalid [] members = None
find_invalid (f ∷ fs) members =
    if has_form f.presence f.shape
    (find f.name members) then find_invalid fs members else Some f.name

-- ---- the value of an argument

-- null means an argument that is absent
abbrev pub but_null : Tree → Option Tree
but_null null = None
but_null (boolean b) = Some (boolean b)
but_null (number z) = Some (number z)
but_null (text s) = Some (text s)
but_null (list ts) = Some (list ts)
but_null (object fs) = Some (object fs)

-- the value of an argument that is neither absent nor null
abbrev pub given : List ℕ → List (List ℕ × Tree) → Option Tree
given name members = option_and_then but_null (find name members)

abbrev pub text_in : List ℕ → List (List ℕ × Tree) → Option (List ℕ)
text_in name members = option_and_then as_text (find name members)

-- the id of the account
abbrev pub account_in : List (List ℕ × Tree) → Option (List ℕ)
account_in members = text_in (codes "accountId") members

-- the members of an object
abbrev pub object_in : List ℕ → List (List ℕ × Tree) → Option (List (List ℕ × Tree))
object_in name members = option_and_then as_object (find name members)

-- the strings of a list of strings
abbrev pub strings_in : List ℕ → List (List ℕ × Tree) → Option (List (List ℕ))
strings_in name members = option_and_then as_strings (given name members)

-- a boolean, false where it is absent; none where the value is no boolean
abbrev pub flag_by : Option Tree → Option Bool
flag_by None = Some false
flag_by (Some t) = as_flag t

abbrev pub flag_in : List ℕ → List (List ℕ × Tree) → Option Bool
flag_in name members = flag_by (find name members)

-- an integer from 0 on, 0 where it is absent; none where the value is none
abbrev pub count_by : Option Tree → Option ℕ
count_by None = Some 0
count_by (Some t) = as_count t

abbrev pub count_in : List ℕ → List (List ℕ × Tree) → Option ℕ
count_in name members = count_by (find name members)

-- an integer
abbrev pub integer_in : List ℕ → List (List ℕ × Tree) → Option ℤ
integer_in name members = option_and_then number_of (find name members)
