-- The bytes that references take from the room of a request: those of the values that are copied,
-- and `VALUE_BYTES` for each list that `*` makes, for each item that it visits, and for each name
-- that a part with `~` is compared with.
use Rattle.std.specs.Prelude.{ℕ, ◌+◌, ◌*◌, ◌==◌, codes, List, [], ◌∷◌, length, cond, bytes_eq, Option, Some, None}
use Rattle.std.specs.List.{list_any}
use Rattle.jm_json.specs.Tree.{Tree, null, boolean, number, text, list, object}
use Rattle.jm_json.specs.Find.{as_object, list_of}
use Rattle.jm_json.specs.Call.{Call}
use Rattle.jm_json.specs.Pointer.{cut, child}
use Rattle.result_refs.specs.References.{is_marked, response_of, text_at}
use Rattle.result_refs.specs.Room.{value_bytes}
use Rattle.result_refs.specs.declared.room.TheConstants.{VALUE_BYTES}

-- the number for what is there, and 0 if nothing is
abbrev pub bytes_if : {A : Type 0} → (A → ℕ) → Option A → ℕ
bytes_if f None = 0
bytes_if f (Some x) = f x

-- the sum over the items of a list
abbrev pub sum_bytes : (Tree → ℕ) → List Tree → ℕ
sum_bytes f [] = 0
sum_bytes f (t ∷ ts) = f t + sum_bytes f ts

-- what `*` takes at a list of which the rest of the path takes so much in each item
abbrev pub gathered_bytes : (Tree → ℕ) → List Tree → ℕ
gathered_bytes rest ts = VALUE_BYTES * (length ts + 1) + sum_bytes rest ts

-- a part with `~` is compared with the name of each member of an object
abbrev pub scan_bytes : List ℕ → Tree → ℕ
scan_bytes part t =
    bytes_if (λ ms. cond (list_any (λ b. b == 126) part) (VALUE_BYTES * length ms) 0) (as_object t)

-- what a part takes that is no `*` at a list, and the parts after it
abbrev pub child_bytes : List ℕ → (Tree → ℕ) → Tree → ℕ
child_bytes part rest t = scan_bytes part t + bytes_if rest (child part t)

-- what a part of a path takes, and the parts after it
abbrev pub step_bytes : List ℕ → (Tree → ℕ) → Tree → ℕ
step_bytes part rest null = 0
step_bytes part rest (boolean b) = 0
step_bytes part rest (number z) = 0
step_bytes part rest (text s) = 0
step_bytes part rest (list ts) =
    cond (bytes_eq part (codes "*")) (gathered_bytes rest (list_of ts))
    (child_bytes part rest (list ts))
step_bytes part rest (object fs) = child_bytes part rest (object fs)

-- what the parts of a path take, at the end of which the value is copied
abbrev pub parts_bytes : List (List ℕ) → Tree → ℕ
parts_bytes [] t = value_bytes t
parts_bytes (p ∷ ps) t = step_bytes p (parts_bytes ps) t

abbrev pub path_bytes : List ℕ → Tree → ℕ
path_bytes [] t = value_bytes t
path_bytes (x ∷ path) t = cond (x == 47) (parts_bytes (cut path) t) 0

-- what a path takes in the response to a call of this id, which must have this name
abbrev pub taken_bytes : List ℕ → List ℕ → List ℕ → List Call → ℕ
taken_bytes id name path cs =
    bytes_if (λ c. cond (bytes_eq c.name name) (path_bytes path c.args) 0) (response_of id cs)

-- what the members of a reference take
abbrev pub asked_bytes : List (List ℕ × Tree) → List Call → ℕ
asked_bytes ms cs =
    bytes_if
    (λ id. bytes_if (λ name. bytes_if (λ path. taken_bytes id name path cs)
    (text_at (codes "path") ms)) (text_at (codes "name") ms)) (text_at (codes "resultOf") ms)

abbrev pub referred_bytes : Tree → List Call → ℕ
referred_bytes t cs = bytes_if (λ ms. asked_bytes ms cs) (as_object t)

-- what an argument's reference takes; an argument without the mark `#` is moved
abbrev pub argument_bytes : List ℕ × Tree → List Call → ℕ
argument_bytes m cs = cond (is_marked m.0) (referred_bytes m.1 cs) 0

abbrev pub arguments_bytes : List (List ℕ × Tree) → List Call → ℕ
arguments_bytes [] cs = 0
arguments_bytes (m ∷ ms) cs = argument_bytes m cs + arguments_bytes ms cs

-- what the references in the arguments of a call take, after these responses
abbrev pub reference_bytes : Tree → List Call → ℕ
reference_bytes args cs = bytes_if (λ ms. arguments_bytes ms cs) (as_object args)
