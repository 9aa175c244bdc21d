-- The leaves of a message and the bytes that they encode, by their numbers.
use Rattle.std.specs.Prelude.{ℕ, Bool, true, false, ◌&&◌, ◌||◌, not, ◌==◌, List, [], ◌∷◌, find, Option, Some, None, option_map, bytes_eq, codes, slice_range}
use Rattle.std.specs.List.{list_any}
use Rattle.mime_codec.specs.Decoded.{decoded}
use Rattle.mime_type.specs.PartTrees.{Node, PartTrees}
use Rattle.mime_tree.specs.PartLimit.{walked, parts_of}
use Rattle.body_lists.specs.Lists.{is_plain, is_html, lists_in}

abbrev pub is_number : ℕ → Option ℕ → Bool
is_number n None = false
is_number n (Some m) = m == n

abbrev pub has_number : ℕ → Node → Bool
has_number n x = is_number n x.number

-- the leaf with this number
abbrev pub leaf_numbered : ℕ → PartTrees → Option Node
leaf_numbered n tree = find (has_number n) (walked tree)

-- the bytes that a part's body encodes
abbrev pub body_bytes : List ℕ → Node → List ℕ
body_bytes bytes x = decoded x.coding (slice_range bytes x.body x.end)

-- the bytes of the leaf with this number
abbrev pub part_bytes_of : List ℕ → ℕ → Option (List ℕ)
part_bytes_of bytes n = option_map (body_bytes bytes) (leaf_numbered n (parts_of bytes))

-- whether a part may be in these lists
abbrev pub is_among : List ℕ → Option ℕ → Bool
is_among numbers None = false
is_among numbers (Some n) = list_any (λ m. m == n) numbers

abbrev pub is_inline : Option (List ℕ) → Bool
is_inline None = false
is_inline (Some disposition) = bytes_eq disposition (codes "inline")

-- some attachment's disposition isn't inline (RFC 8621, section 4.1.4)
abbrev pub shows_attachment : List ℕ → Node → Bool
shows_attachment attachments x = is_among attachments x.number && not (is_inline x.disposition)

abbrev pub has_attachment_in : PartTrees → Bool
has_attachment_in tree = list_any (shows_attachment (lists_in tree).attachments) (walked tree)

-- the first of these leaves that is plain text or HTML
abbrev pub is_text : Node → Bool
is_text x = is_plain x || is_html x

abbrev pub if_text : Option Node → Option Node → Option Node
if_text None later = later
if_text (Some x) later = elim (is_text x) [ true ↦ Some x | false ↦ later ]

abbrev pub first_text : PartTrees → List ℕ → Option Node
first_text tree [] = None
first_text tree (n ∷ ns) = if_text (leaf_numbered n tree) (first_text tree ns)
