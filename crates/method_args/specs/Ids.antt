-- The identifiers of records and the states in a response (RFC 8620, 1.2 and 5.1).
use Rattle.std.specs.Prelude.{ℕ, List, [], ◌∷◌, map, ◌==◌, ◌&&◌, nat_le, nat_lt, bytes_eq, Option, Some, None, option_and_then, option_map, if◌then◌else◌}
use Rattle.std.specs.Fmt.{decimal}
use Rattle.std.specs.Str.Parse.{digits_value}
use Rattle.jm_base.specs.Ids.{id_text, kind_letter}
use Rattle.jm_base.specs.declared.identifiers.TheConstants.{NUMBER_LIMIT}
use Rattle.jm_base.specs.declared.identifiers.Kind.{Kind}
use Rattle.jm_json.specs.Find.{as_list, as_text}
use Rattle.jm_json.specs.Tree.{Tree, text}

-- the identifiers of records of the kind
abbrev pub id_trees : Kind → List ℕ → List Tree
id_trees kind numbers = map (λ n. text (id_text (record { kind = kind; number = n }))) numbers

-- the number, if the string is its decimal and it is below the limit
abbrev pub if_decimal : List ℕ → ℕ → Option ℕ
if_decimal string n =
    if nat_lt n NUMBER_LIMIT && bytes_eq string (decimal n) then Some n else None

-- the number below the limit of which the string is the decimal
abbrev pub number_by : List ℕ → Option ℕ
number_by string = if_decimal string (digits_value 10 string)

-- a number from 1 on
abbrev pub if_positive : ℕ → Option ℕ
if_positive n = if nat_le 1 n then Some n else None

-- the number of the record of the kind whose identifier the string is
abbrev pub id_number : Kind → List ℕ → Option ℕ
id_number kind [] = None
id_number kind (letter ∷ digits) =
    if letter == kind_letter kind then option_and_then if_positive (number_by digits) else None

-- the number of the record of the kind whose identifier the value is
abbrev pub id_in : Kind → Tree → Option ℕ
id_in kind t = option_and_then (id_number kind) (as_text t)

-- the numbers of the records of the kind whose identifiers the values are, if each is one
abbrev pub ids_from : Kind → List Tree → Option (List ℕ)
ids_from kind [] = Some []
ids_from kind (t ∷ ts) =
    option_and_then (λ n. option_map (λ ns. n ∷ ns) (ids_from kind ts)) (id_in kind t)

-- the numbers of a list of identifiers of the kind
abbrev pub ids_in : Kind → Tree → Option (List ℕ)
ids_in kind t = option_and_then (ids_from kind) (as_list t)

-- the position of the state whose text the value is
abbrev pub state_in : Tree → Option ℕ
state_in t = option_and_then number_by (as_text t)
