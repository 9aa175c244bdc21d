-- The parts of a draft in their order.
use Rattle.std.specs.Prelude.{ℕ, zero, suc, ◌+◌, Bool, false, true, ◌&&◌, List, [], ◌∷◌, ◌++◌, unwrap_or, codes, if◌then◌else◌}
use Rattle.std.specs.List.{list_all}
use Rattle.mime_writer.specs.declared.heads.PartHead.{PartHead}
use Rattle.jm_json.specs.Tree.{Tree}
use Rattle.jm_json.specs.Find.{find}
use Rattle.draft_form.specs.Members.{is_given, items_in, members_in, is_object, text_at}
use Rattle.draft_form.specs.Parts.{has_part, head_of, is_multipart, named_value}

-- the body of a part that is no multipart: a text, or the blob of this id
pub data Body : Type 0 where
  value : List ℕ → Body
  blob : List ℕ → Body

-- parts in their order: none, a part that is no multipart and the later parts, or a multipart with
-- the parts within it and the later parts
pub data DraftParts : Type 0 where
  none : DraftParts
  leaf : PartHead → Body → DraftParts → DraftParts
  multipart : PartHead → DraftParts → DraftParts → DraftParts

-- how many parts there are
abbrev pub part_count : DraftParts → ℕ
part_count none = 0
part_count (leaf h b later) = 1 + part_count later
part_count (multipart h inner later) = 1 + (part_count inner + part_count later)

abbrev pub id_of : Body → List (List ℕ)
id_of (value t) = []
id_of (blob id) = id ∷ []

-- the ids of the blobs of parts, in walk order
abbrev pub ids_of : DraftParts → List (List ℕ)
ids_of none = []
ids_of (leaf h b later) = id_of b ++ ids_of later
ids_of (multipart h inner later) = ids_of inner ++ ids_of later

abbrev pub sub_parts : Tree → List Tree
sub_parts t = items_in (find (codes "subParts") (members_in t))

-- a part and those within it are of the form, over these values, to this depth
abbrev pub is_part : ℕ → List (List ℕ × Tree) → Tree → Bool
is_part zero values t = false
is_part (suc levels) values t =
    is_object (has_part values) t && list_all (is_part levels values) (sub_parts t)

-- so are a part of these members and those within it, to this depth
abbrev pub has_parts : ℕ → List (List ℕ × Tree) → List (List ℕ × Tree) → Bool
has_parts levels values ms =
    has_part values ms
    && list_all (is_part levels values) (items_in (find (codes "subParts") ms))

abbrev pub body_of : List (List ℕ × Tree) → List (List ℕ × Tree) → Body
body_of values ms =
    if is_given (find (codes "partId") ms) then value (named_value values (text_at (codes "partId") ms))
    else blob (unwrap_or (text_at (codes "blobId") ms) [])

-- parts before others, where `each` puts one part before the later ones
abbrev pub each_before : (Tree → DraftParts → DraftParts) → List Tree → DraftParts → DraftParts
each_before each [] later = later
each_before each (t ∷ ts) later = each t (each_before each ts later)

-- a multipart with these members before others, where `each` puts one part within it before the
-- later ones
abbrev pub multipart_with :
    (Tree → DraftParts → DraftParts) → List (List ℕ × Tree) → DraftParts → DraftParts
multipart_with each ms later =
    multipart (head_of ms) (each_before each (items_in (find (codes "subParts") ms)) none) later

-- a part with these members before others, where `each` puts one part within it before the later
-- ones
abbrev pub members_with :
    (Tree → DraftParts → DraftParts) → List (List ℕ × Tree) → List (List ℕ × Tree) → DraftParts
    → DraftParts
members_with each values ms later =
    if is_multipart ms
    then multipart_with each ms later
    else leaf (head_of ms) (body_of values ms) later

-- a part with those within it, to this depth, before others
abbrev pub part_before : ℕ → List (List ℕ × Tree) → Tree → DraftParts → DraftParts
part_before zero values t later = later
part_before (suc levels) values t later =
    members_with (part_before levels values) values (members_in t) later

-- a part of these members, with parts within it to this depth
abbrev pub members_before :
    ℕ → List (List ℕ × Tree) → List (List ℕ × Tree) → DraftParts → DraftParts
members_before levels values ms later = members_with (part_before levels values) values ms later

abbrev pub multipart_before :
    ℕ → List (List ℕ × Tree) → List (List ℕ × Tree) → DraftParts → DraftParts
multipart_before levels values ms later = multipart_with (part_before levels values) ms later
