-- The parts of a message as a careful writer writes them (RFC 2046, section 5.1), and what is read
-- of a message's parts but their byte offsets and numbers.
use Rattle.std.specs.Prelude.{◌≡◌, ℕ, zero, suc, ◌+◌, true, false, List, [], ◌∷◌, ◌++◌, None, unwrap_or, slice_range}
use Rattle.std.specs.List.{AllByRecursion}
use Rattle.mime_lines.specs.FieldTexts.{FieldText}
use Rattle.mime_lines.specs.Written.{header_and_body}
use Rattle.mime_cut.specs.WrittenPieces.{HasNoDelimiter, multipart_text}
use Rattle.mime_type.specs.Content.{is_multipart}
use Rattle.mime_type.specs.HeadText.{HeadText, IsHead, media_of_head, node_of_head, part_fields}
use Rattle.mime_type.specs.PartTrees.{Node, PartTrees}
use Rattle.mime_type.specs.PartTrees as trees

-- parts in their order: none, a part that is no multipart with its body as it is encoded and the
-- later parts, or a multipart with the parts within it and the later parts
pub data WrittenParts : Type 0 where
  none : WrittenParts
  leaf : HeadText → List ℕ → WrittenParts → WrittenParts
  multipart : HeadText → WrittenParts → WrittenParts → WrittenParts

-- a message: fields, those of its part's head, and its part's body
abbrev pub message_text : List FieldText → HeadText → List ℕ → List ℕ
message_text fields h body = header_and_body (fields ++ part_fields h) body

-- the body of a multipart with parts of these texts
abbrev pub body_text : HeadText → List (List ℕ) → List ℕ
body_text h texts = multipart_text (unwrap_or h.boundary []) texts

-- the texts of parts: of each its head and its body
abbrev pub part_texts : WrittenParts → List (List ℕ)
part_texts none = []
part_texts (leaf h body later) = message_text [] h body ∷ part_texts later
part_texts (multipart h inner later) =
    message_text [] h (body_text h (part_texts inner)) ∷ part_texts later

-- how many parts there are
abbrev pub written_count : WrittenParts → ℕ
written_count none = 0
written_count (leaf h body later) = 1 + written_count later
written_count (multipart h inner later) = 1 + (written_count inner + written_count later)

pub record IsLeaf (h : HeadText) : Type 0 where
  pub head : IsHead h
  pub single : is_multipart (media_of_head h) ≡ false

-- a multipart with parts of these texts: no line of them is a delimiter line or the close-delimiter
-- of its boundary
pub record IsMultipart (h : HeadText) (texts : List (List ℕ)) : Type 0 where
  pub head : IsHead h
  pub several : is_multipart (media_of_head h) ≡ true
  pub apart : AllByRecursion (HasNoDelimiter (unwrap_or h.boundary [])) texts

-- parts that can be written, with multiparts within one another to this depth
abbrev pub AreWritable : ℕ → WrittenParts → Type 0
AreWritable levels none = Unit {0}
AreWritable levels (leaf h body later) = IsLeaf h × AreWritable levels later
AreWritable zero (multipart h inner later) = ⊥
AreWritable (suc levels) (multipart h inner later) =
    IsMultipart h (part_texts inner) × AreWritable levels inner × AreWritable (suc levels) later

-- a part as it is read, without its byte offsets and its number; its body; the parts within it; and
-- the later parts
pub data ReadParts : Type 0 where
  none : ReadParts
  part : Node → List ℕ → ReadParts → ReadParts → ReadParts

abbrev pub without_places : Node → Node
without_places x = record x { start = 0; body = 0; end = 0; number = None }

-- what is read of a message's parts
abbrev pub read_parts : List ℕ → PartTrees → ReadParts
read_parts message trees.none = none
read_parts message (trees.part x inner later) =
    part (without_places x) (slice_range message x.body x.end) (read_parts message inner)
    (read_parts message later)

-- what parts are to be read as
abbrev pub meant_parts : WrittenParts → ReadParts
meant_parts none = none
meant_parts (leaf h body later) = part (node_of_head 0 0 0 h) body none (meant_parts later)
meant_parts (multipart h inner later) =
    part (node_of_head 0 0 0 h) (body_text h (part_texts inner)) (meant_parts inner)
    (meant_parts later)
