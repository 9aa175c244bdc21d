-- The byte offsets of a message's parts.
use Rattle.std.specs.Prelude.{ℕ, ◌≤◌}
use Rattle.mime_type.specs.PartTrees.{Node, PartTrees, none, part}

-- the byte offsets of a part are within a message of this size, and don't fall
pub record IsPlaced (size : ℕ) (x : Node) : Type 0 where
  pub begins : x.start ≤ x.body
  pub ends : x.body ≤ x.end
  pub inside : x.end ≤ size

-- so are those of each part
abbrev pub AllPlaced : ℕ → PartTrees → Type 0
AllPlaced size none = Unit {0}
AllPlaced size (part x inner later) = IsPlaced size x × AllPlaced size inner × AllPlaced size later
