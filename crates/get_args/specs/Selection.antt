-- The arguments that every get has: the account, the ids of the records, and the names of the
-- properties (RFC 8620, 5.1).
use Rattle.std.specs.Prelude.{ℕ, List, [], ◌∷◌, Bool, true, ◌&&◌, ◌||◌, is_some, is_none, Option, Some, None, if◌then◌else◌, not, filter, unwrap_or, codes, bytes_eq}
use Rattle.std.specs.List.{list_any, list_all}
use Rattle.jm_json.specs.Tree.{Tree}
use Rattle.method_args.specs.Arguments.{account_in, given, strings_in}

-- the argument of a name is absent, null or a list of strings
abbrev pub is_selection : List ℕ → List (List ℕ × Tree) → Bool
is_selection name args = is_none (given name args) || is_some (strings_in name args)

-- the ids of the records that are asked for; none: all records are
abbrev pub ids_in : List (List ℕ × Tree) → Option (List (List ℕ))
ids_in args = strings_in (codes "ids") args

-- the names of the properties that are asked for; none: all properties are
abbrev pub names_in : List (List ℕ × Tree) → Option (List (List ℕ))
names_in args = strings_in (codes "properties") args

-- the string is one of these
abbrev pub is_among : List (List ℕ) → List ℕ → Bool
is_among strings s = list_any (bytes_eq s) strings

-- each name that is asked for is one of these
abbrev pub are_among : List (List ℕ) → Option (List (List ℕ)) → Bool
are_among properties names = list_all (is_among properties) (unwrap_or names [])

-- properties may be asked for, of a kind that has these
abbrev pub are_properties : List (List ℕ) → List (List ℕ × Tree) → Bool
are_properties properties args =
    is_selection (codes "properties") args && are_among properties (names_in args)

-- The name of the first invalid argument among `accountId` and `ids`. Arguments of other names are
-- ignored.
abbrev pub invalid_selection : List (List ℕ × Tree) → Option (List ℕ)
invalid_selection args =
    if is_none (account_in args)
    then Some (codes "accountId")
    else if is_selection (codes "ids") args then None else Some (codes "ids")

-- the name of `properties` if it is invalid for records that have these properties
abbrev pub invalid_properties : List (List ℕ) → List (List ℕ × Tree) → Option (List ℕ)
invalid_properties properties args =
    if are_properties properties args then None else Some (codes "properties")

-- a property is shown if it is asked for, as all are if none is named; `id` always is
abbrev pub is_shown : Option (List (List ℕ)) → List ℕ → Bool
is_shown None property = true
is_shown (Some names) property = bytes_eq property (codes "id") || is_among names property

-- those of these properties that are not shown
abbrev pub hidden_of : Option (List (List ℕ)) → List (List ℕ) → List (List ℕ)
hidden_of names properties = filter (λ p. not (is_shown names p)) properties
