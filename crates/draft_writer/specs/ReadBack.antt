-- What is read of a draft's message: the parts and the fields of the create (RFC 8621, sections
-- 4.1.2 to 4.1.4).
use Rattle.std.specs.Prelude.{◌≡◌, ℕ, ◌<◌, Bool, true, false, List, ◌∷◌, ◌++◌, drop, length, Option, Some, option_map, option_and_then, codes, EachIndex, slice_index}
use Rattle.std.specs.List.{AllByRecursion}
use Rattle.std.specs.Option.{option_or}
use Rattle.std.specs.Str.{IsUtf8}
use Rattle.jm_json.specs.Tree.{Tree, null, boolean, number, text, list, object, Trees, no_trees, tree, Fields, no_fields, field}
use Rattle.jm_json.specs.Find.{find}
use Rattle.mime_lines.specs.FieldOffsets.{last_value_of, lowered}
use Rattle.mime_lines.specs.Fields.{fields_of}
use Rattle.mime_codec.specs.Decoded.{decoded}
use Rattle.mime_codec.specs.QuotedText.{with_crlf}
use Rattle.mime_words.specs.Words.{decoded_words}
use Rattle.mime_type.specs.Content.{default_charset, is_multipart}
use Rattle.mime_type.specs.HeadText.{IfThere}
use Rattle.mime_type.specs.PartTrees.{Node}
use Rattle.mime_tree.specs.PartLimit.{parts_of}
use Rattle.mime_tree.specs.WrittenParts.{ReadParts, read_parts}
use Rattle.mime_tree.specs.WrittenParts as written
use Rattle.header_forms.specs.Addresses.{addresses_in}
use Rattle.header_forms.specs.Angles.{angle_texts}
use Rattle.header_forms.specs.Dates.{date_text, date_time_text}
use Rattle.header_forms.specs.Texts.{on_one_line, text_form}
use Rattle.mime_writer.specs.DateTimes.{zoned}
use Rattle.mime_writer.specs.declared.heads.PartHead.{PartHead}
use Rattle.draft_form.specs.Bodies.{structure_in}
use Rattle.draft_form.specs.Drafts.{later_fields}
use Rattle.draft_form.specs.Headers.{first_fields, given_date, given_id, given_value}
use Rattle.draft_form.specs.Members.{string_of}
use Rattle.draft_form.specs.Names.{field_named}
use Rattle.draft_form.specs.Rows.{content_of}
use Rattle.draft_form.specs.Structures.{Body, DraftParts, blob, ids_of, value}
use Rattle.draft_form.specs.Structures as draft
use Rattle.draft_form.specs.declared.draft.DraftField.{DraftField}
use Rattle.draft_form.specs.declared.draft.FieldValue.{FieldValue}
use Rattle.draft_form.specs.declared.draft.FieldValue.TheVariants.{OfAddresses, OfText, OfIdentifiers}
use Rattle.draft_form.specs.declared.draft.ValueForm.{ValueForm}
use Rattle.draft_form.specs.declared.draft.ValueForm.TheVariants.{Addresses, Plain, Identifiers}
use Rattle.draft_writer.specs.Fields.{date_or, ids_or}
use Rattle.draft_writer.specs.Parts.{blobs_after, first_blob}

-- what a part's head says of it, as it is shown
pub record PartView : Type 0 where
  pub media : List ℕ
  pub charset : Option (List ℕ)
  pub disposition : Option (List ℕ)
  pub name : Option (List ℕ)
  pub cid : Option (List ℕ)
  pub language : Option (List (List ℕ))
  pub location : Option (List ℕ)

-- parts as they are shown: none, a part that is no multipart with its decoded bytes and the later
-- parts, or a multipart with the parts within it and the later parts
pub data PartViews : Type 0 where
  none : PartViews
  leaf : PartView → List ℕ → PartViews → PartViews
  multipart : PartView → PartViews → PartViews → PartViews

-- ---- what is read

-- the encoded-words of a name are decoded
abbrev pub view_of : Node → PartView
view_of x = record {
  media = x.media;
  charset = x.charset;
  disposition = x.disposition;
  name = option_map decoded_words x.name;
  cid = x.cid;
  language = x.language;
  location = x.location;
}

abbrev pub view_with : Bool → Node → List ℕ → PartViews → PartViews → PartViews
view_with true x body inner later = multipart (view_of x) inner later
view_with false x body inner later = leaf (view_of x) (decoded x.coding body) later

abbrev pub views_of : ReadParts → PartViews
views_of written.none = none
views_of (written.part x body inner later) =
    view_with (is_multipart x.media) x body (views_of inner) (views_of later)

-- the parts of a message
abbrev pub views_in : List ℕ → PartViews
views_in bytes = views_of (read_parts bytes (parts_of bytes))

-- ---- what is meant

-- The type, the charset and the disposition are in lower case. A text without a charset has
-- us-ascii.
abbrev pub head_view : PartHead → PartView
head_view h = record {
  media = lowered (h.main ++ 47 ∷ h.sub);
  charset =
      option_or (option_map lowered h.charset) (default_charset (lowered (h.main ++ 47 ∷ h.sub)));
  disposition = option_map lowered h.disposition;
  name = h.name;
  cid = h.cid;
  language = h.language;
  location = h.location;
}

-- the bytes of a blob, or those of a text with CRLF for each LF
abbrev pub meant_bytes : List (List ℕ) → Body → List ℕ
meant_bytes blobs (value t) = with_crlf t
meant_bytes blobs (blob id) = first_blob blobs

-- the parts of a draft, with the blobs that they hold in walk order
abbrev pub meant_views : List (List ℕ) → DraftParts → PartViews
meant_views blobs draft.none = none
meant_views blobs (draft.leaf h b later) =
    leaf (head_view h) (meant_bytes blobs b) (meant_views (blobs_after blobs (content_of b)) later)
meant_views blobs (draft.multipart h inner later) =
    multipart (head_view h) (meant_views blobs inner)
    (meant_views (drop (length (ids_of inner)) blobs) later)

-- ---- fields

-- a value of a field as it is shown in a form: as addresses, as text or as message identifiers
abbrev pub shown_value : ValueForm → List ℕ → FieldValue
shown_value Addresses v = OfAddresses (addresses_in (on_one_line v))
shown_value Plain v = OfText (text_form v)
shown_value Identifiers v = OfIdentifiers (angle_texts (on_one_line v))

-- the value of the last field of this name in a message
abbrev pub last_in : List ℕ → List ℕ → Option (List ℕ)
last_in name bytes = last_value_of bytes name (fields_of bytes)

abbrev pub shown_in : List ℕ → ValueForm → List ℕ → Option FieldValue
shown_in name form bytes = option_map (shown_value form) (last_in name bytes)

-- the Date form of the message's date
abbrev pub date_in : List ℕ → Option (List ℕ)
date_in bytes =
    option_and_then (λ v. date_text (on_one_line v)) (last_in (codes "Date") bytes)

-- a field of this name, in the form of the property, is what the create sends, and is not there if
-- the create does not send it
abbrev pub IsShown : List (List ℕ × Tree) → List ℕ → List ℕ → ValueForm → List ℕ → Type 0
IsShown ms property name form bytes =
    shown_in name form bytes ≡ given_value form (find property ms)

-- The properties of a create that are header fields, as they are read of a message's bytes. The
-- date is that of the call, and the identifier the email's own, if none is sent.
pub record AreFieldsShown (ms : List (List ℕ × Tree)) (number moment : ℕ) (bytes : List ℕ)
    : Type 0 where
  pub from : IsShown ms (codes "from") (codes "From") Addresses bytes
  pub sender : IsShown ms (codes "sender") (codes "Sender") Addresses bytes
  pub reply_to : IsShown ms (codes "replyTo") (codes "Reply-To") Addresses bytes
  pub to : IsShown ms (codes "to") (codes "To") Addresses bytes
  pub cc : IsShown ms (codes "cc") (codes "Cc") Addresses bytes
  pub bcc : IsShown ms (codes "bcc") (codes "Bcc") Addresses bytes
  pub subject : IsShown ms (codes "subject") (codes "Subject") Plain bytes
  pub date :
      date_in bytes
      ≡ Some (date_time_text (zoned (date_or moment (given_date (find (codes "sentAt") ms)))))
  pub message_id :
      shown_in (codes "Message-ID") Identifiers bytes
      ≡ Some (OfIdentifiers (ids_or number moment (given_id (find (codes "messageId") ms))))
  pub in_reply_to : IsShown ms (codes "inReplyTo") (codes "In-Reply-To") Identifiers bytes
  pub references : IsShown ms (codes "references") (codes "References") Identifiers bytes

-- each property header:NAME:asText of a create, as it is read of a message's bytes
abbrev pub AreTextsShown : List (List ℕ × Tree) → List ℕ → Type 0
AreTextsShown ms bytes =
    (key name : List ℕ) → (t : Tree) → find key ms ≡ Some t → field_named key ≡ Some name
    → shown_in name Plain bytes ≡ Some (OfText (string_of t))

-- ---- strings

-- the names and the values of parts are UTF-8
abbrev pub IsTextBody : Body → Type 0
IsTextBody (value t) = IsUtf8 t
IsTextBody (blob id) = Unit {0}

abbrev pub AreTextParts : DraftParts → Type 0
AreTextParts draft.none = Unit {0}
AreTextParts (draft.leaf h b later) = IfThere IsUtf8 h.name × IsTextBody b × AreTextParts later
AreTextParts (draft.multipart h inner later) =
    IfThere IsUtf8 h.name × AreTextParts inner × AreTextParts later

-- so are the display-names of addresses and the texts of fields
abbrev pub IsTextValue : FieldValue → Type 0
IsTextValue (OfAddresses addresses) = AllByRecursion (λ a. IfThere IsUtf8 a.name) addresses
IsTextValue (OfText t) = IsUtf8 t
IsTextValue (OfIdentifiers ids) = Unit {0}

abbrev pub AreTextFields : List DraftField → Type 0
AreTextFields fields = AllByRecursion (λ f. IsTextValue f.value) fields

-- the strings of the draft of these members are UTF-8
pub record IsTextDraft (ms : List (List ℕ × Tree)) : Type 0 where
  pub first : AreTextFields (first_fields ms)
  pub later : AreTextFields (later_fields ms)
  pub parts : AreTextParts (structure_in ms)

-- all strings of a tree of JSON are UTF-8, but perhaps the names of members
abbrev mutual
  pub IsTextTree : Tree → Type 0
  IsTextTree null = Unit {0}
  IsTextTree (boolean b) = Unit {0}
  IsTextTree (number z) = Unit {0}
  IsTextTree (text s) = IsUtf8 s
  IsTextTree (list ts) = AreTextTrees ts
  IsTextTree (object fs) = AreTextMembers fs

  pub AreTextTrees : Trees → Type 0
  AreTextTrees no_trees = Unit {0}
  AreTextTrees (tree t ts) = IsTextTree t × AreTextTrees ts

  pub AreTextMembers : Fields → Type 0
  AreTextMembers no_fields = Unit {0}
  AreTextMembers (field k t fs) = IsTextTree t × AreTextMembers fs

-- so are those of a create with these members
abbrev pub HoldTexts : List (List ℕ × Tree) → Type 0
HoldTexts ms = AllByRecursion (λ m. IsTextTree m.1) ms

-- the numbers of blobs are bytes
abbrev pub AreBytes : List ℕ → Type 0
AreBytes bytes = EachIndex bytes (λ k. slice_index bytes k < 256)
