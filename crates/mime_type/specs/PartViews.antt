-- What contracts see of the code's parts.
use Rattle.std.specs.Prelude.{List, [], ◌∷◌}
use Rattle.mime_type.specs.PartTrees.{Node, PartTrees, part}
use Rattle.mime_type.specs.declared.part.Part.{Part}

-- a part without those within it
abbrev pub node_of : Part → Node
node_of p = record {
  start = p.start;
  body = p.body;
  end = p.end;
  number = p.number;
  media = p.media;
  charset = p.charset;
  boundary = p.boundary;
  disposition = p.disposition;
  name = p.name;
  cid = p.cid;
  language = p.language;
  location = p.location;
  coding = p.coding;
}

-- a part with those within it, before others
abbrev pub part_before : Part → PartTrees → PartTrees
part_before p later = part (node_of p) p.parts later

-- parts in their order, before others
abbrev pub joined : List Part → PartTrees → PartTrees
joined [] later = later
joined (p ∷ ps) later = part_before p (joined ps later)
