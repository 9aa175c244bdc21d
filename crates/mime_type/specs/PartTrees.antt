-- The parts of a message as a list of trees (RFC 2046, section 5.1).
use Rattle.std.specs.Prelude.{ℕ, ◌+◌, List, Option}
use Rattle.mime_codec.specs.declared.coding.Coding.{Coding}

-- What is known of one part of a message, the parts within it left out. `start`, `body` and `end`
-- are byte offsets in the message: where the part begins, where its body begins, where it ends.
-- `number` is that of a leaf in the message. `media` is the type and subtype. `coding` is the
-- transfer encoding.
pub record Node : Type 0 where
  pub start : ℕ
  pub body : ℕ
  pub end : ℕ
  pub number : Option ℕ
  pub media : List ℕ
  pub charset : Option (List ℕ)
  pub boundary : Option (List ℕ)
  pub disposition : Option (List ℕ)
  pub name : Option (List ℕ)
  pub cid : Option (List ℕ)
  pub language : Option (List (List ℕ))
  pub location : Option (List ℕ)
  pub coding : Coding

-- no part, or a first part with those within it, and the later parts
pub data PartTrees : Type 0 where
  none : PartTrees
  part : Node → PartTrees → PartTrees → PartTrees

-- how many parts there are
abbrev pub part_count : PartTrees → ℕ
part_count none = 0
part_count (part n inner later) = 1 + (part_count inner + part_count later)
