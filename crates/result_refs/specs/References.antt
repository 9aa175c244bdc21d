-- References to results of earlier calls (RFC 8620, section 3.7).
use Rattle.std.specs.Prelude.{ℕ, codes, List, [], ◌∷◌, ◌++◌, drop, Bool, true, false, cond, ◌==◌, ◌&&◌, ◌||◌, is_some, Option, Some, None, option_map, option_and_then, bytes_eq}
use Rattle.jm_json.specs.Tree.{Tree, null, boolean, number, text, list, object, trees_of, fields_of}
use Rattle.jm_json.specs.Find.{find, list_of, as_text, as_object}
use Rattle.jm_json.specs.Order.{put}
use Rattle.jm_json.specs.Call.{Call}
use Rattle.jm_json.specs.Pointer.{cut, child}

-- the items of a list, or the value alone
abbrev pub own_items : Tree → List Tree
own_items null = null ∷ []
own_items (boolean b) = boolean b ∷ []
own_items (number z) = number z ∷ []
own_items (text s) = text s ∷ []
own_items (list ts) = list_of ts
own_items (object fs) = object fs ∷ []

-- what each value gives, one after another; a value that gives a list gives its items
abbrev pub gathered : (Tree → Option Tree) → List Tree → Option (List Tree)
gathered give [] = Some []
gathered give (t ∷ ts) =
    option_and_then (λ r. option_map (λ rs. own_items r ++ rs) (gathered give ts)) (give t)

-- `*` at a list gives what the rest of the path names in each of its items
abbrev pub step : List ℕ → (Tree → Option Tree) → Tree → Option Tree
step part rest null = None
step part rest (boolean b) = None
step part rest (number z) = None
step part rest (text s) = None
step part rest (list ts) =
    cond (bytes_eq part (codes "*"))
    (option_map (λ rs. list (trees_of rs)) (gathered rest (list_of ts)))
    (option_and_then rest (child part (list ts)))
step part rest (object fs) = option_and_then rest (child part (object fs))

abbrev pub walked : List (List ℕ) → Tree → Option Tree
walked [] t = Some t
walked (p ∷ ps) t = step p (walked ps) t

-- what the path of a reference names: a JSON Pointer (RFC 6901), with `*` for the items of a list
abbrev pub picked : List ℕ → Tree → Option Tree
picked [] t = Some t
picked (x ∷ path) t = cond (x == 47) (walked (cut path) t) None

-- the first response with a call's id
abbrev pub response_of : List ℕ → List Call → Option Call
response_of id [] = None
response_of id (c ∷ cs) = cond (bytes_eq c.id id) (Some c) (response_of id cs)

-- a path in the response to a call of this id, which must have this name
abbrev pub taken : List ℕ → List ℕ → List ℕ → List Call → Option Tree
taken id name path cs =
    option_and_then (λ c. cond (bytes_eq c.name name) (picked path c.args) None) (response_of id cs)

abbrev pub text_at : List ℕ → List (List ℕ × Tree) → Option (List ℕ)
text_at k ms = option_and_then as_text (find k ms)

-- what the members of a reference ask for
abbrev pub asked : List (List ℕ × Tree) → List Call → Option Tree
asked ms cs =
    option_and_then
    (λ id. option_and_then
    (λ name. option_and_then (λ path. taken id name path cs) (text_at (codes "path") ms))
    (text_at (codes "name") ms)) (text_at (codes "resultOf") ms)

-- a reference is an object with these texts
abbrev pub referred : Tree → List Call → Option Tree
referred t cs = option_and_then (λ ms. asked ms cs) (as_object t)

-- the name of an argument that is given by a reference begins with `#`
abbrev pub is_marked : List ℕ → Bool
is_marked [] = false
is_marked (x ∷ xs) = x == 35

-- an argument, with what it refers to under the name without the mark
abbrev pub argument : List ℕ × Tree → List Call → Option (List ℕ × Tree)
argument m cs = cond (is_marked m.0) (option_map (λ t. (drop 1 m.0, t)) (referred m.1 cs)) (Some m)

-- the arguments, put one after another into those before
abbrev pub arguments : List (List ℕ × Tree) → List (List ℕ × Tree) → List Call
    → Option (List (List ℕ × Tree))
arguments before [] cs = Some before
arguments before (m ∷ ms) cs =
    option_and_then (λ a. arguments (put a.0 a.1 before) ms cs) (argument m cs)

-- whether some name of these is in the arguments with and without the mark
abbrev pub clashes : List (List ℕ × Tree) → List (List ℕ × Tree) → Bool
clashes [] all = false
clashes (m ∷ ms) all = (is_marked m.0 && is_some (find (drop 1 m.0) all)) || clashes ms all

pub data Resolution : Type 0 where
  bad_reference : Resolution
  both : Resolution
  resolved : Tree → Resolution

abbrev pub unless_both : Bool → List (List ℕ × Tree) → Resolution
unless_both true ms = both
unless_both false ms = resolved (object (fields_of ms))

abbrev pub by_arguments : Option (List (List ℕ × Tree)) → Bool → Resolution
by_arguments None clash = bad_reference
by_arguments (Some ms) clash = unless_both clash ms

-- the members of the arguments, with each reference replaced by what it refers to
abbrev pub resolution_of : List (List ℕ × Tree) → List Call → Resolution
resolution_of ms cs = by_arguments (arguments [] ms cs) (clashes ms ms)

abbrev pub of_members : Option (List (List ℕ × Tree)) → Tree → List Call → Resolution
of_members None args cs = resolved args
of_members (Some ms) args cs = resolution_of ms cs

-- the arguments of a call, with each reference replaced by what it refers to
abbrev pub resolution : Tree → List Call → Resolution
resolution args cs = of_members (as_object args) args cs
