-- Changing a tree by a patch (RFC 8620, section 5.3). Its paths are JSON Pointers without the slash
-- that they begin with.
use Rattle.std.specs.Prelude.{ℕ, List, [], ◌∷◌, Bool, false, not, cond, ◌==◌, ◌&&◌, ◌||◌, is_some, Option, Some, None, option_and_then, bytes_eq}
use Rattle.jm_json.specs.Tree.{Tree, null, boolean, number, text, list, object, fields_of}
use Rattle.jm_json.specs.Find.{find, pairs_of, as_object}
use Rattle.jm_json.specs.Order.{put}
use Rattle.jm_json.specs.Pointer.{cut, name_of}

-- the other path is this one, a slash and more
abbrev pub goes_on : List ℕ → List ℕ → Bool
goes_on [] [] = false
goes_on [] (y ∷ ys) = y == 47
goes_on (x ∷ xs) [] = false
goes_on (x ∷ xs) (y ∷ ys) = (x == y) && goes_on xs ys

-- the path is a prefix, by parts, of one of these
abbrev pub is_prefix : List ℕ → List (List ℕ × Tree) → Bool
is_prefix p [] = false
is_prefix p (m ∷ ms) = goes_on p m.0 || is_prefix p ms

abbrev pub found_and : (Tree → Bool) → Option Tree → Bool
found_and holds None = false
found_and holds (Some t) = holds t

-- the member of an object that a part names
abbrev pub member_named : List ℕ → Tree → Option Tree
member_named part t =
    option_and_then (λ ms. option_and_then (λ k. find k ms) (name_of part)) (as_object t)

-- Each part is in an object. The last is a name, and each other names a member that is there.
abbrev pub is_placed : List (List ℕ) → Tree → Bool
is_placed [] t = false
is_placed (p ∷ []) t = is_some (as_object t) && is_some (name_of p)
is_placed (p ∷ q ∷ ps) t = found_and (is_placed (q ∷ ps)) (member_named p t)

abbrev pub take_away : List ℕ → List (List ℕ × Tree) → List (List ℕ × Tree)
take_away k [] = []
take_away k (m ∷ ms) = cond (bytes_eq m.0 k) ms (m ∷ take_away k ms)

-- null removes the member, and every other value replaces it
abbrev pub set_member : List ℕ → Tree → List (List ℕ × Tree) → List (List ℕ × Tree)
set_member k null ms = take_away k ms
set_member k (boolean b) ms = put k (boolean b) ms
set_member k (number z) ms = put k (number z) ms
set_member k (text s) ms = put k (text s) ms
set_member k (list ts) ms = put k (list ts) ms
set_member k (object fs) ms = put k (object fs) ms

abbrev pub at_member : List ℕ → (Tree → Tree) → Option Tree → List (List ℕ × Tree)
    → List (List ℕ × Tree)
at_member k f None ms = ms
at_member k f (Some t) ms = put k (f t) ms

abbrev pub at_name : (List ℕ → List (List ℕ × Tree) → List (List ℕ × Tree)) → Option (List ℕ)
    → List (List ℕ × Tree) → List (List ℕ × Tree)
at_name f None ms = ms
at_name f (Some k) ms = f k ms

abbrev pub in_object : (List (List ℕ × Tree) → List (List ℕ × Tree)) → Tree → Tree
in_object f null = null
in_object f (boolean b) = boolean b
in_object f (number z) = number z
in_object f (text s) = text s
in_object f (list ts) = list ts
in_object f (object fs) = object (fields_of (f (pairs_of fs)))

-- a tree with a value set at a path
abbrev pub changed : List (List ℕ) → Tree → Tree → Tree
changed [] v t = t
changed (p ∷ []) v t = in_object (at_name (λ k ms. set_member k v ms) (name_of p)) t
changed (p ∷ q ∷ ps) v t =
    in_object (at_name (λ k ms. at_member k (changed (q ∷ ps) v) (find k ms) ms) (name_of p)) t

abbrev pub all_changed : List (List ℕ × Tree) → Tree → Tree
all_changed [] t = t
all_changed (m ∷ ms) t = all_changed ms (changed (cut m.0) m.1 t)

-- the first path that is a prefix of another, or that leads to no member that is there
abbrev pub first_invalid_path : List (List ℕ × Tree) → List (List ℕ × Tree) → Tree
    → Option (List ℕ)
first_invalid_path [] all t = None
first_invalid_path (m ∷ ms) all t =
    cond (is_prefix m.0 all || not (is_placed (cut m.0) t)) (Some m.0) (first_invalid_path ms all t)

pub data Patched : Type 0 where
  bad_patch : List ℕ → Patched
  patched : Tree → Patched

abbrev pub by_path : Option (List ℕ) → List (List ℕ × Tree) → Tree → Patched
by_path (Some path) ms t = bad_patch path
by_path None ms t = patched (all_changed ms t)

-- the tree that these members of a patch make, or the first invalid path among them
abbrev pub patching_by : List (List ℕ × Tree) → Tree → Patched
patching_by ms t = by_path (first_invalid_path ms ms t) ms t

abbrev pub by_members : Option (List (List ℕ × Tree)) → Tree → Patched
by_members None t = bad_patch []
by_members (Some ms) t = patching_by ms t

-- the tree that a patch makes of a tree, or its first invalid path in the order of the keys
abbrev pub patching : Tree → Tree → Patched
patching t patch = by_members (as_object patch) t
