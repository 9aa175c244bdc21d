-- The values of the members of a response (RFC 8620, 3.4, 5.1, 5.2, 5.5 and 5.6).
use Rattle.std.specs.Prelude.{◌≡◌, ℕ, List, Bool, ◌==◌, bytes_eq, Option, Some, None, option_and_then, ⊤}
use Rattle.jm_base.specs.declared.identifiers.Kind.{Kind}
use Rattle.jm_json.specs.Find.{find}
use Rattle.jm_json.specs.LeastPlaces.{least_from}
use Rattle.jm_json.specs.Tree.{Tree}
use Rattle.method_args.specs.Arguments.{as_count, as_flag, passes, text_in}
use Rattle.method_args.specs.Ids.{ids_in, state_in}
use Rattle.reply_readers.specs.declared.fault.PlaceFault.{PlaceFault}
use Rattle.reply_readers.specs.declared.fault.PlaceFault.TheVariants.{InvalidAt, NoMemory}

-- the numbers of the records of a list of identifiers
abbrev pub ids_of : Kind → List ℕ → List (List ℕ × Tree) → Option (List ℕ)
ids_of kind name ms = option_and_then (ids_in kind) (find name ms)

-- the position of a state
abbrev pub state_of : List ℕ → List (List ℕ × Tree) → Option ℕ
state_of name ms = option_and_then state_in (find name ms)

abbrev pub flag_of : List ℕ → List (List ℕ × Tree) → Option Bool
flag_of name ms = option_and_then as_flag (find name ms)

-- the member is this string
abbrev pub has_text : List ℕ → List ℕ → List (List ℕ × Tree) → Bool
has_text name string ms = passes (λ s. bytes_eq s string) (text_in name ms)

-- the member is the text of this state
abbrev pub has_state : List ℕ → ℕ → List (List ℕ × Tree) → Bool
has_state name position ms = passes (λ n. n == position) (state_of name ms)

-- the member is this number
abbrev pub has_count : List ℕ → ℕ → List (List ℕ × Tree) → Bool
has_count name count ms = passes (λ n. n == count) (option_and_then as_count (find name ms))

-- the place is the least of these in byte order; out of memory explains itself
abbrev pub IsLeastPlace : PlaceFault → List (List ℕ) → Type 0
IsLeastPlace (InvalidAt place) places = least_from None places ≡ Some place
IsLeastPlace NoMemory places = ⊤
