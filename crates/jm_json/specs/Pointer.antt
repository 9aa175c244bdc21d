-- JSON Pointer (RFC 6901).
use Rattle.std.specs.Prelude.{ℕ, ◌+◌, List, [], ◌∷◌, Bool, true, false, cond, ◌==◌, Option, Some, None, option_map, option_and_then, decimal, bytes_eq}
use Rattle.jm_json.specs.Tree.{Tree, null, boolean, number, text, list, object}
use Rattle.jm_json.specs.Find.{find, list_of, pairs_of}

-- a byte before the first part
abbrev pub onto : ℕ → List (List ℕ) → List (List ℕ)
onto x [] = (x ∷ []) ∷ []
onto x (p ∷ ps) = (x ∷ p) ∷ ps

-- the parts between the slashes of a text: one more than there are slashes
abbrev pub cut : List ℕ → List (List ℕ)
cut [] = [] ∷ []
cut (x ∷ xs) = cond (x == 47) ([] ∷ cut xs) (onto x (cut xs))

-- the name that is written as a part, after a `~` or not: `~1` means `/` and `~0` means `~`. No
-- `/` is in a part, and no other byte after a `~` (sections 3 and 4)
abbrev pub unescaped : Bool → List ℕ → Option (List ℕ)
unescaped true [] = None
unescaped false [] = Some []
unescaped true (x ∷ xs) =
    cond (x == 48) (option_map (λ k. 126 ∷ k) (unescaped false xs))
    (cond (x == 49) (option_map (λ k. 47 ∷ k) (unescaped false xs)) None)
unescaped false (x ∷ xs) =
    cond (x == 126) (unescaped true xs)
    (cond (x == 47) None (option_map (λ k. x ∷ k) (unescaped false xs)))

abbrev pub name_of : List ℕ → Option (List ℕ)
name_of = unescaped false

-- the item whose index, counted from i and in decimal with no leading zero, is the part
abbrev pub item_named : ℕ → List ℕ → List Tree → Option Tree
item_named i part [] = None
item_named i part (t ∷ ts) = cond (bytes_eq (decimal i) part) (Some t) (item_named (i + 1) part ts)

-- what a part names in a value (section 4)
abbrev pub child : List ℕ → Tree → Option Tree
child part null = None
child part (boolean b) = None
child part (number z) = None
child part (text s) = None
child part (list ts) = item_named 0 part (list_of ts)
child part (object fs) = option_and_then (λ k. find k (pairs_of fs)) (name_of part)

-- what parts name, one in what the other names
abbrev pub followed : List (List ℕ) → Tree → Option Tree
followed [] t = Some t
followed (p ∷ ps) t = option_and_then (followed ps) (child p t)

-- what a pointer names: with no byte the whole value; each other begins with a slash (section 5)
abbrev pub pointed : List ℕ → Tree → Option Tree
pointed [] t = Some t
pointed (x ∷ path) t = cond (x == 47) (followed (cut path) t) None

-- what follows some bytes in a text, where it begins with them
abbrev pub stripped : List ℕ → List ℕ → Option (List ℕ)
stripped [] s = Some s
stripped (x ∷ xs) [] = None
stripped (x ∷ xs) (y ∷ ys) = cond (x == y) (stripped xs ys) None
