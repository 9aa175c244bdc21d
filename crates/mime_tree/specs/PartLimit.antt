-- The limits on a message's parts, and the numbers of its leaves.
use Rattle.std.specs.Prelude.{ℕ, zero, suc, ◌+◌, false, List, [], ◌∷◌, ◌++◌, Option, None, Some, is_some, if◌then◌else◌}
use Rattle.mime_cut.specs.Cut.{piece}
use Rattle.mime_type.specs.PartTrees.{Node, PartTrees, none, part}
use Rattle.mime_tree.specs.Tree.{part_tree}
use Rattle.mime_tree.specs.declared.walk.TheConstants.{MAX_MULTIPART_LEVELS, MAX_PARTS}

-- some parts, and a count that continues after them
pub record Counted : Type 0 where
  pub parts : PartTrees
  pub count : ℕ

-- the parts in walk order: a part before those within it
abbrev pub walked : PartTrees → List Node
walked none = []
walked (part x inner later) = x ∷ (walked inner ++ walked later)

-- the first n parts in walk order; the count says how many more are allowed
abbrev pub kept : PartTrees → ℕ → Counted
kept none n = record { parts = none; count = n }
kept (part x inner later) zero = record { parts = none; count = 0 }
kept (part x inner later) (suc n) =
    let a = kept inner n in
    let b = kept later a.count in
    record { parts = part x a.parts b.parts; count = b.count }

-- the number of a part if n is the next number: a multipart has none
abbrev pub number_of : Node → ℕ → Option ℕ
number_of x n = if is_some x.boundary then None else Some n

abbrev pub next_number : Node → ℕ → ℕ
next_number x n = if is_some x.boundary then n else n + 1

-- the leaves numbered in walk order, from n on; the count is the next number
abbrev pub numbered : PartTrees → ℕ → Counted
numbered none n = record { parts = none; count = n }
numbered (part x inner later) n =
    let a = numbered inner (next_number x n) in
    let b = numbered later a.count in
    record { parts = part (record x { number = number_of x n }) a.parts b.parts; count = b.count }

-- The parts of a message: `MAX_MULTIPART_LEVELS` levels of multiparts are entered; the first
-- `MAX_PARTS` parts in walk order are kept, of which the message itself is one; and the leaves
-- among them are numbered from 1.
abbrev pub parts_of : List ℕ → PartTrees
parts_of bytes =
    let tree = part_tree MAX_MULTIPART_LEVELS false (piece 0 bytes) none in
    (numbered (kept tree MAX_PARTS).parts 1).parts
