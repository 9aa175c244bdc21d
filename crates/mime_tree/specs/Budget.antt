-- The parts within a budget: the limit and the numbers in one walk.
use Rattle.std.specs.Prelude.{ℕ, zero, suc}
use Rattle.mime_type.specs.PartTrees.{Node, PartTrees, none, part}
use Rattle.mime_tree.specs.PartLimit.{number_of, next_number}

-- some parts, how many more may follow, and the number of the next leaf
pub record Taken : Type 0 where
  pub parts : PartTrees
  pub left : ℕ
  pub number : ℕ

abbrev pub with_number : Node → ℕ → Node
with_number x n = record x { number = number_of x n }

abbrev pub taken : PartTrees → ℕ → ℕ → Taken
taken none left number = record { parts = none; left = left; number = number }
taken (part x inner later) zero number = record { parts = none; left = 0; number = number }
taken (part x inner later) (suc left) number =
    let a = taken inner left (next_number x number) in
    let b = taken later a.left a.number in
    record { parts = part (with_number x number) a.parts b.parts; left = b.left; number = b.number }
