-- An object has each key once, in byte order.
use Rattle.std.specs.Prelude.{ℕ, List, [], ◌∷◌}
use Rattle.std.specs.Ordering.{nat_cmp, match_ordering}
use Rattle.std.specs.Cmp.Lexicographic.{slice_cmp}
use Rattle.std.specs.List.Sorted.{IsStrictlySortedBy}
use Rattle.std.specs.Map.{keys_of}
use Rattle.jm_json.specs.Tree.{Tree}

abbrev pub KeysRise : List (List ℕ × Tree) → Type 0
KeysRise ms = IsStrictlySortedBy (slice_cmp nat_cmp) (keys_of ms)

-- the members, with this value at this key
abbrev pub put : List ℕ → Tree → List (List ℕ × Tree) → List (List ℕ × Tree)
put k t [] = (k, t) ∷ []
put k t (m ∷ ms) =
    match_ordering (slice_cmp nat_cmp k m.0) ((k, t) ∷ m ∷ ms) ((k, t) ∷ ms) (m ∷ put k t ms)

-- the members, with these put one after another
abbrev pub put_all : List (List ℕ × Tree) → List (List ℕ × Tree) → List (List ℕ × Tree)
put_all [] ms = ms
put_all (n ∷ ns) ms = put_all ns (put n.0 n.1 ms)
