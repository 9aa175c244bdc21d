-- The parts of a draft: its bodyStructure, or those of textBody, htmlBody and attachments (RFC
-- 8621, section 4.6).
use Rattle.std.specs.Prelude.{ℕ, Bool, true, false, ◌&&◌, not, ◌==◌, nat_le, List, [], ◌∷◌, length, Option, Some, None, option_map, unwrap_or, is_some, codes, if◌then◌else◌}
use Rattle.std.specs.List.{list_all}
use Rattle.mail_text.specs.Texts.{is_same_name}
use Rattle.mime_writer.specs.declared.heads.PartHead.{PartHead}
use Rattle.jm_json.specs.Tree.{Tree}
use Rattle.jm_json.specs.Find.{find, as_object}
use Rattle.draft_form.specs.Members.{is_given, is_list, is_object, items_in, list_items, members_in}
use Rattle.draft_form.specs.Parts.{has_value, type_of}
use Rattle.draft_form.specs.Structures.{DraftParts, each_before, is_part, leaf, multipart, none, part_before, part_count, value}
use Rattle.draft_form.specs.declared.bodies.TheConstants.{MAX_DEPTH, MAX_PARTS}

-- ---- what is sent

-- the values of bodyValues
abbrev pub values_in : List (List ℕ × Tree) → List (List ℕ × Tree)
values_in ms = unwrap_or (option_map members_in (find (codes "bodyValues") ms)) []

-- the first part of textBody or htmlBody
abbrev pub first_of : List Tree → Option Tree
first_of [] = None
first_of (t ∷ ts) = Some t

abbrev pub first_part : List ℕ → List (List ℕ × Tree) → Option Tree
first_part property ms = first_of (items_in (find property ms))

abbrev pub plain_head : List ℕ → List ℕ → Option (List ℕ) → PartHead
plain_head main sub charset = record {
  main = main;
  sub = sub;
  charset = charset;
  name = None;
  disposition = None;
  cid = None;
  language = None;
  location = None;
}

-- an empty text
abbrev pub empty_before : DraftParts → DraftParts
empty_before later = leaf (plain_head (codes "text") (codes "plain") (Some (codes "utf-8"))) (value []) later

-- parts of a multipart of this subtype
abbrev pub multipart_of : List ℕ → DraftParts → DraftParts → DraftParts
multipart_of sub inner later = multipart (plain_head (codes "multipart") sub None) inner later

-- a text and the same as HTML
abbrev pub both_before : List (List ℕ × Tree) → Tree → Tree → DraftParts → DraftParts
both_before values t h later = multipart_of (codes "alternative")
    (part_before 1 values t (part_before 1 values h none)) later

-- the text or the HTML, or the alternative of both, or an empty text if neither is sent
abbrev pub text_before :
    List (List ℕ × Tree) → Option Tree → Option Tree → DraftParts → DraftParts
text_before values None None later = empty_before later
text_before values (Some t) None later = part_before 1 values t later
text_before values None (Some h) later = part_before 1 values h later
text_before values (Some t) (Some h) later = both_before values t h later

-- it and attachments
abbrev pub mixed_before :
    List (List ℕ × Tree) → Option Tree → Option Tree → List Tree → DraftParts
mixed_before values t h attached = multipart_of (codes "mixed")
    (text_before values t h (each_before (part_before 1 values) attached none)) none

-- with attachments it is the first part of a multipart/mixed
abbrev pub with_attached :
    List (List ℕ × Tree) → Option Tree → Option Tree → List Tree → DraftParts
with_attached values t h attached =
    if length attached == 0 then text_before values t h none
    else mixed_before values t h attached

-- the parts of a draft without bodyStructure
abbrev pub lists_in : List (List ℕ × Tree) → List (List ℕ × Tree) → DraftParts
lists_in values ms =
    with_attached values (first_part (codes "textBody") ms) (first_part (codes "htmlBody") ms)
    (items_in (find (codes "attachments") ms))

-- the parts of this bodyStructure
unfoldable pub whole_part : List (List ℕ × Tree) → Tree → DraftParts
whole_part values t = part_before MAX_DEPTH values t none

-- the parts of a draft with this bodyStructure
abbrev pub structure_with : List (List ℕ × Tree) → Option Tree → DraftParts
structure_with ms (Some t) = whole_part (values_in ms) t
structure_with ms None = lists_in (values_in ms) ms

-- the parts of a draft
abbrev pub structure_in : List (List ℕ × Tree) → DraftParts
structure_in ms = structure_with ms (find (codes "bodyStructure") ms)

-- ---- the form

abbrev pub has_few_parts : List (List ℕ × Tree) → Bool
has_few_parts ms = nat_le (part_count (structure_in ms)) MAX_PARTS

-- a bodyStructure is a part
unfoldable pub is_whole : List (List ℕ × Tree) → Tree → Bool
is_whole values t = is_part MAX_DEPTH values t

abbrev pub is_structure : List (List ℕ × Tree) → Tree → Bool
is_structure ms t = is_whole (values_in ms) t && has_few_parts ms

-- no bodyStructure is sent
abbrev pub has_lists : List (List ℕ × Tree) → Bool
has_lists ms = not (is_some (find (codes "bodyStructure") ms))

-- a part sends this type, in either case
abbrev pub has_type : List ℕ → Tree → Bool
has_type type t = is_same_name type (type_of (members_in t))

-- one part of this type
abbrev pub is_one : List (List ℕ × Tree) → List ℕ → List Tree → Bool
is_one values type [] = false
is_one values type (t ∷ ts) = length ts == 0 && (is_part 1 values t && has_type type t)

abbrev pub is_body : List (List ℕ × Tree) → List ℕ → Tree → Bool
is_body ms type t = has_lists ms && is_one (values_in ms) type (list_items t)

abbrev pub has_blob : Tree → Bool
has_blob t = is_given (find (codes "blobId") (members_in t))

abbrev pub is_attachment : List (List ℕ × Tree) → Tree → Bool
is_attachment values t =
    is_part 1 values t && has_blob t

abbrev pub are_attachments : List (List ℕ × Tree) → Tree → Bool
are_attachments ms t =
    has_lists ms && (is_list (is_attachment (values_in ms)) t && has_few_parts ms)

abbrev pub has_values : List (List ℕ × Tree) → Bool
has_values ms = list_all (λ m. is_object has_value m.1) ms

abbrev pub are_values : Tree → Bool
are_values t = is_object has_values t
