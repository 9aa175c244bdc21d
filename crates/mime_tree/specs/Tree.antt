-- The parts of a message as a tree, by cutting (RFC 2046, section 5.1). The body of a multipart is
-- cut at its own boundary first, and each piece is then read and cut in the same way. So a
-- delimiter line of a multipart ends all parts within it, and one of an inner multipart ends none
-- but its own.
use Rattle.std.specs.Prelude.{ℕ, zero, suc, Bool, List, [], ◌∷◌, drop, Option, None, Some, is_some, bytes_eq, codes, if◌then◌else◌}
use Rattle.mime_lines.specs.Lines.{lines}
use Rattle.mime_lines.specs.Fields.{body_of}
use Rattle.mime_cut.specs.Cut.{Piece, cut}
use Rattle.mime_type.specs.PartTrees.{Node, PartTrees, none, part}
use Rattle.mime_type.specs.Head.{head_at}

-- in a digest a part without a Content-Type is a message (RFC 2046, section 5.1.5)
abbrev pub is_digest : Node → Bool
is_digest node = bytes_eq node.media (codes "multipart/digest")

-- a part that isn't entered: a multipart is then a leaf of type application/octet-stream
abbrev pub closed : Node → Node
closed node = if is_some node.boundary then record node
    { media = codes "application/octet-stream"; boundary = None } else node

-- a part by its head, where this many more levels of multiparts may be entered
abbrev pub node_at : ℕ → Bool → Piece → Node
node_at zero digest p = closed (head_at p.at p.bytes digest)
node_at (suc levels) digest p = head_at p.at p.bytes digest

-- the trees of some pieces, where `each` puts that of one before the later ones
abbrev pub trees_of : (Piece → PartTrees → PartTrees) → List Piece → PartTrees
trees_of each [] = none
trees_of each (p ∷ ps) = each p (trees_of each ps)

-- the trees of the pieces of a body, if there is a boundary at which to cut it; it begins at `at`
abbrev pub within : (Piece → PartTrees → PartTrees) → Option (List ℕ) → ℕ → List ℕ → PartTrees
within each None at body = none
within each (Some boundary) at body = trees_of each (cut boundary at (lines body))

-- a part with those within it, before the later ones
abbrev pub part_tree : ℕ → Bool → Piece → PartTrees → PartTrees
part_tree zero digest p later = part (node_at zero digest p) none later
part_tree (suc levels) digest p later =
    let node = node_at (suc levels) digest p in
    part node (within (part_tree levels (is_digest node)) node.boundary node.body
    (drop (body_of p.bytes) p.bytes)) later
