-- The form of one part of a draft (RFC 8621, sections 4.1.4 and 4.6; RFC 2045, section 5.1; RFC
-- 2183), and what it says.
use Rattle.std.specs.Prelude.{ℕ, Bool, true, false, ◌&&◌, not, ◌==◌, nat_lt, List, [], ◌∷◌, length, Option, Some, None, option_map, option_and_then, unwrap_or, is_some, bytes_eq, codes, if◌then◌else◌}
use Rattle.std.specs.List.{position_or_len, before_first, after_first}
use Rattle.mail_text.specs.Texts.{is_same_name}
use Rattle.mime_writer.specs.declared.heads.PartHead.{PartHead}
use Rattle.jm_json.specs.Tree.{Tree}
use Rattle.jm_json.specs.Find.{find, as_text, as_list, as_object}
use Rattle.draft_form.specs.Texts.{keeps}
use Rattle.draft_form.specs.Members.{has_names, is_absent_or_false, is_given, is_object, is_some_list, is_text, items_in, list_items, members_in, optional, required, string_of, text_at, texts_in}
use Rattle.draft_form.specs.Names.{begins_with}
use Rattle.draft_form.specs.declared.texts.TextRule.TheVariants.{Any, Token, Label, Shown}

-- ---- a type

abbrev pub is_slash : ℕ → Bool
is_slash b = b == 47

-- the string before the first slash, and the string after it
abbrev pub at_slash : List ℕ → Option (List ℕ × List ℕ)
at_slash t =
    if nat_lt (position_or_len is_slash t) (length t)
    then Some (before_first is_slash t, after_first is_slash t) else None

abbrev pub are_tokens : Option (List ℕ × List ℕ) → Bool
are_tokens None = false
are_tokens (Some x) = keeps Token x.0 && keeps Token x.1

abbrev pub is_media_type : Option (List ℕ) → Bool
is_media_type None = false
is_media_type (Some t) = are_tokens (at_slash t)

-- two tokens with a slash between them
abbrev pub is_type : Tree → Bool
is_type t = is_media_type (as_text t)

abbrev pub main_of : Option (List ℕ × List ℕ) → List ℕ
main_of None = []
main_of (Some x) = x.0

abbrev pub sub_of : Option (List ℕ × List ℕ) → List ℕ
sub_of None = []
sub_of (Some x) = x.1

-- the type that a part sends
abbrev pub type_of : List (List ℕ × Tree) → List ℕ
type_of ms = unwrap_or (text_at (codes "type") ms) []

-- in either case
abbrev pub is_multipart : List (List ℕ × Tree) → Bool
is_multipart ms = begins_with (codes "multipart/") (type_of ms)

-- ---- the form

abbrev pub part_names : List (List ℕ)
part_names =
    codes "blobId" ∷ codes "charset" ∷ codes "cid" ∷ codes "disposition" ∷ codes "language"
    ∷ codes "location" ∷ codes "name" ∷ codes "partId" ∷ codes "size" ∷ codes "subParts"
    ∷ codes "type" ∷ []

-- what a part says besides its type and its body
abbrev pub has_labels : List (List ℕ × Tree) → Bool
has_labels ms =
    optional (is_text Token) (find (codes "charset") ms)
    && (optional (is_text Token) (find (codes "disposition") ms)
    && (optional (is_text Label) (find (codes "cid") ms)
    && (optional (is_text Label) (find (codes "location") ms)
    && (optional (is_text Shown) (find (codes "name") ms)
    && optional (is_some_list (is_text Token)) (find (codes "language") ms)))))

abbrev pub is_utf8_name : Option (List ℕ) → Bool
is_utf8_name None = false
is_utf8_name (Some s) = is_same_name s (codes "utf-8")

abbrev pub is_utf8 : Tree → Bool
is_utf8 t = is_utf8_name (as_text t)

abbrev pub is_key : List (List ℕ × Tree) → Option (List ℕ) → Bool
is_key values None = false
is_key values (Some id) = is_some (find id values)

-- a partId names one of these values
abbrev pub names_value : List (List ℕ × Tree) → Tree → Bool
names_value values t = is_key values (as_text t)

-- the part of a value is a text in UTF-8
abbrev pub holds_value : List (List ℕ × Tree) → List (List ℕ × Tree) → Bool
holds_value values ms =
    required (names_value values) (find (codes "partId") ms)
    && (begins_with (codes "text/") (type_of ms)
    && (optional is_utf8 (find (codes "charset") ms)
    && not (is_given (find (codes "blobId") ms))))

-- the body of a part that is no multipart: a value or a blob
abbrev pub holds_body : List (List ℕ × Tree) → List (List ℕ × Tree) → Bool
holds_body values ms =
    not (is_given (find (codes "subParts") ms))
    && (if is_given (find (codes "partId") ms) then holds_value values ms
    else required (is_text Any) (find (codes "blobId") ms))

abbrev pub some_items : Tree → Bool
some_items t = nat_lt 0 (length (list_items t))

-- a multipart has parts, and no body of its own
abbrev pub holds_parts : List (List ℕ × Tree) → Bool
holds_parts ms =
    required some_items (find (codes "subParts") ms)
    && (not (is_given (find (codes "partId") ms)) && not (is_given (find (codes "blobId") ms)))

abbrev pub holds : List (List ℕ × Tree) → List (List ℕ × Tree) → Bool
holds values ms = if is_multipart ms then holds_parts ms else holds_body values ms

-- a part by itself, whatever the parts within it are
abbrev pub has_part : List (List ℕ × Tree) → List (List ℕ × Tree) → Bool
has_part values ms =
    has_names part_names ms
    && (required is_type (find (codes "type") ms)
    && (has_labels ms && holds values ms))

-- ---- what it says

abbrev pub language_of : Option Tree → Option (List (List ℕ))
language_of None = None
language_of (Some t) = option_map texts_in (as_list t)

-- the head that it sends, with this charset
abbrev pub head_with : Option (List ℕ) → List (List ℕ × Tree) → PartHead
head_with charset ms = record {
  main = main_of (at_slash (type_of ms));
  sub = sub_of (at_slash (type_of ms));
  charset = charset;
  name = text_at (codes "name") ms;
  disposition = text_at (codes "disposition") ms;
  cid = text_at (codes "cid") ms;
  language = language_of (find (codes "language") ms);
  location = text_at (codes "location") ms;
}

-- the charset of a value is UTF-8; others have what they send
abbrev pub charset_of : List (List ℕ × Tree) → Option (List ℕ)
charset_of ms = if is_given (find (codes "partId") ms) then Some (codes "utf-8")
    else text_at (codes "charset") ms

abbrev pub head_of : List (List ℕ × Tree) → PartHead
head_of ms = head_with (charset_of ms) ms

-- ---- values

abbrev pub value_names : List (List ℕ)
value_names = codes "isEncodingProblem" ∷ codes "isTruncated" ∷ codes "value" ∷ []

-- a value of bodyValues: a text, without a problem
abbrev pub has_value : List (List ℕ × Tree) → Bool
has_value ms =
    has_names value_names ms
    && (required (is_text Any) (find (codes "value") ms)
    && (is_absent_or_false (find (codes "isEncodingProblem") ms)
    && is_absent_or_false (find (codes "isTruncated") ms)))

abbrev pub value_of : Tree → List ℕ
value_of t = unwrap_or (text_at (codes "value") (members_in t)) []

-- the text of the value that a partId names
abbrev pub value_text : Option Tree → List ℕ
value_text None = []
value_text (Some t) = value_of t

abbrev pub named_value : List (List ℕ × Tree) → Option (List ℕ) → List ℕ
named_value values None = []
named_value values (Some id) = value_text (find id values)
