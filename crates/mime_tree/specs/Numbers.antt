-- The numbers of leaves as a list.
use Rattle.std.specs.Prelude.{ℕ, zero, suc, ◌+◌, Bool, not, List, [], ◌∷◌, length, filter, is_some}
use Rattle.std.specs.List.{filter_map}
use Rattle.mime_type.specs.PartTrees.{Node, PartTrees}
use Rattle.mime_tree.specs.PartLimit.{walked}

-- a leaf is a part that isn't a multipart
abbrev pub is_leaf : Node → Bool
is_leaf x = not (is_some x.boundary)

-- how many leaves there are
abbrev pub leaf_count : PartTrees → ℕ
leaf_count f = length (filter is_leaf (walked f))

-- the numbers that parts have, in walk order
abbrev pub numbers_in : PartTrees → List ℕ
numbers_in f = filter_map (λ (x : Node). x.number) (walked f)

-- k numbers that rise by one, from n on
abbrev pub counted_from : ℕ → ℕ → List ℕ
counted_from n zero = []
counted_from n (suc k) = n ∷ counted_from (n + 1) k
