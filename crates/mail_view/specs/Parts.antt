-- The JSON view of a body part (RFC 8621, 4.1.4).
use Rattle.std.specs.Prelude.{ℕ, ◌==◌, List, [], ◌∷◌, ◌++◌, length, map, filter_map, find, decimal, pos, Option, Some, None, is_some, option_map, codes, slice_range, if◌then◌else◌}
use Rattle.jm_json.specs.Tree.{Tree, null, number, text, object, fields_of}
use Rattle.jm_json.specs.Order.{put}
use Rattle.mime_words.specs.Words.{decoded_words}
use Rattle.mime_type.specs.PartTrees.{Node, PartTrees, none, part}
use Rattle.mime_tree.specs.PartLimit.{walked}
use Rattle.header_forms.specs.Forms.{text_or_null}
use Rattle.mail_summary.specs.Leaves.{body_bytes, has_number}
use Rattle.mail_view.specs.Objects.{put_all, list_tree, texts_or_null, decimal_or_null}
use Rattle.mail_view.specs.Headers.{header_tree, headers_tree}
use Rattle.get_args.specs.declared.property.PartProperty.{PartProperty}
use Rattle.get_args.specs.declared.property.PartProperty.TheVariants.{PartId, BlobId, Size, Header, Headers, Name, MediaType, Charset, Disposition, Cid, Language, Location, SubParts}
use Rattle.get_args.specs.declared.property.NamedPartProperty.{NamedPartProperty}

-- the bytes of a part with its header
abbrev pub bytes_with_header : List ℕ → Node → List ℕ
bytes_with_header bytes x = slice_range bytes x.start x.end

-- the blob id of a leaf's decoded body: that of the message, a dash and the leaf's number
abbrev pub leaf_blob : List ℕ → Option ℕ → Tree
leaf_blob blob None = null
leaf_blob blob (Some n) = text (blob ++ 45 ∷ decimal n)

-- the number of bytes of the decoded body, of a multipart too
abbrev pub size_tree : List ℕ → Node → Tree
size_tree bytes x = number (pos (length (body_bytes bytes x)))

-- A property of a part of a message with these bytes and this blob id. subParts is null here: the
-- parts within a multipart are added where the structure is shown.
abbrev pub part_tree : List ℕ → List ℕ → Node → PartProperty → Tree
part_tree bytes blob x PartId = decimal_or_null x.number
part_tree bytes blob x BlobId = leaf_blob blob x.number
part_tree bytes blob x Size = size_tree bytes x
part_tree bytes blob x (Header asked) = header_tree (bytes_with_header bytes x) asked
part_tree bytes blob x Headers = headers_tree (bytes_with_header bytes x)
part_tree bytes blob x Name = text_or_null (option_map decoded_words x.name)
part_tree bytes blob x MediaType = text x.media
part_tree bytes blob x Charset = text_or_null x.charset
part_tree bytes blob x Disposition = text_or_null x.disposition
part_tree bytes blob x Cid = text_or_null x.cid
part_tree bytes blob x Language = texts_or_null x.language
part_tree bytes blob x Location = text_or_null x.location
part_tree bytes blob x SubParts = null

abbrev pub part_member : List ℕ → List ℕ → Node → NamedPartProperty → List ℕ × Tree
part_member bytes blob x asked = (asked.name, part_tree bytes blob x asked.property)

-- the properties of a part that are asked for
abbrev pub part_members : List ℕ → List ℕ → List NamedPartProperty → Node → List (List ℕ × Tree)
part_members bytes blob asked x = put_all (map (part_member bytes blob x) asked) []

-- a leaf in a list of parts
abbrev pub leaf_tree : List ℕ → List ℕ → List NamedPartProperty → Node → Tree
leaf_tree bytes blob asked x = object (fields_of (part_members bytes blob asked x))

-- the part of a number among some parts
abbrev pub part_numbered : List Node → ℕ → Option Node
part_numbered parts n = find (has_number n) parts

-- the leaves of these numbers among some parts
abbrev pub leaves_among : List ℕ → List ℕ → List NamedPartProperty → List Node → List ℕ → List Tree
leaves_among bytes blob asked parts numbers =
    map (leaf_tree bytes blob asked) (filter_map (part_numbered parts) numbers)

-- a list of leaves of a message
abbrev pub leaves_tree : List ℕ → List ℕ → List NamedPartProperty → PartTrees → List ℕ → Tree
leaves_tree bytes blob asked tree numbers =
    list_tree (leaves_among bytes blob asked (walked tree) numbers)

-- in the structure a multipart always has the parts within it
abbrev pub with_parts : Node → List Tree → List (List ℕ × Tree) → List (List ℕ × Tree)
with_parts x inner members =
    if is_some x.boundary then put (codes "subParts") (list_tree inner) members else members

abbrev pub structure_of : List ℕ → List ℕ → List NamedPartProperty → Node → List Tree → Tree
structure_of bytes blob asked x inner =
    object (fields_of (with_parts x inner (part_members bytes blob asked x)))

-- parts with those within them
abbrev pub structures : List ℕ → List ℕ → List NamedPartProperty → PartTrees → List Tree
structures bytes blob asked none = []
structures bytes blob asked (part x inner later) =
    structure_of bytes blob asked x (structures bytes blob asked inner)
    ∷ structures bytes blob asked later

abbrev pub first_or_null : List Tree → Tree
first_or_null [] = null
first_or_null (t ∷ ts) = t

-- the structure of a message: the first part is the message itself (RFC 8621, 4.1.4:
-- bodyStructure)
abbrev pub structure_tree : List ℕ → List ℕ → List NamedPartProperty → PartTrees → Tree
structure_tree bytes blob asked tree = first_or_null (structures bytes blob asked tree)
