-- The properties of a draft that name a header field: header:NAME:asText (RFC 8621, sections 4.1.3
-- and 4.6).
use Rattle.std.specs.Prelude.{ℕ, Bool, false, ◌&&◌, ◌||◌, not, ◌==◌, nat_le, nat_lt, List, [], ◌∷◌, ◌+◌, length, map, take, Option, Some, None, bytes_eq, codes, if◌then◌else◌}
use Rattle.std.specs.List.{list_all, list_any, position_or_len, before_first, after_first}
use Rattle.std.specs.Char.{is_ascii_alphanumeric}
use Rattle.mail_text.specs.Texts.{is_same_name}
use Rattle.jm_json.specs.Tree.{Tree, text}
use Rattle.jm_json.specs.Order.{put}
use Rattle.draft_form.specs.Members.{is_text, string_of}
use Rattle.draft_form.specs.Headers.{named}
use Rattle.draft_form.specs.declared.names.TheConstants.{MAX_FIELD_NAME_BYTES}
use Rattle.draft_form.specs.declared.texts.TextRule.TheVariants.{FieldText}
use Rattle.draft_form.specs.declared.draft.DraftField.{DraftField}
use Rattle.draft_form.specs.declared.draft.FieldValue.TheVariants.{OfText}

-- The fields that a draft may not have as text: those whose Text form can't be asked for (RFC 8621,
-- section 4.1.2), one that is a property of its own, and one that each message has.
abbrev pub taken_fields : List (List ℕ)
taken_fields =
    codes "From" ∷ codes "Sender" ∷ codes "Reply-To" ∷ codes "To" ∷ codes "Cc" ∷ codes "Bcc"
    ∷ codes "Resent-From" ∷ codes "Resent-Sender" ∷ codes "Resent-To" ∷ codes "Resent-Cc"
    ∷ codes "Resent-Bcc" ∷ codes "Message-ID" ∷ codes "In-Reply-To" ∷ codes "References"
    ∷ codes "Resent-Message-ID" ∷ codes "Date" ∷ codes "Resent-Date" ∷ codes "List-Help"
    ∷ codes "List-Unsubscribe" ∷ codes "List-Subscribe" ∷ codes "List-Post" ∷ codes "List-Owner"
    ∷ codes "List-Archive" ∷ codes "Return-Path" ∷ codes "Received" ∷ codes "Subject"
    ∷ codes "MIME-Version" ∷ []

-- a name is one of these, in either case
abbrev pub is_one_of : List (List ℕ) → List ℕ → Bool
is_one_of names name = list_any (is_same_name name) names

-- a text begins with this, in either case
abbrev pub begins_with : List ℕ → List ℕ → Bool
begins_with start t =
    nat_le (length start) (length t) && is_same_name (take (length start) t) start

-- a letter, a digit or a hyphen
abbrev pub is_name_character : ℕ → Bool
is_name_character b = is_ascii_alphanumeric b || b == 45

-- the name of a field that a draft may have as text
abbrev pub is_free_name : List ℕ → Bool
is_free_name name =
    nat_lt 0 (length name)
    && (nat_le (length name) MAX_FIELD_NAME_BYTES
    && (list_all is_name_character name
    && (not (is_one_of taken_fields name) && not (begins_with (codes "Content-") name))))

abbrev pub is_colon : ℕ → Bool
is_colon b = b == 58

-- the string before the first colon, and the string after it
abbrev pub at_colon : List ℕ → Option (List ℕ × List ℕ)
at_colon t =
    if nat_lt (position_or_len is_colon t) (length t)
    then Some (before_first is_colon t, after_first is_colon t) else None

abbrev pub as_text_field : Option (List ℕ × List ℕ) → Option (List ℕ)
as_text_field None = None
as_text_field (Some x) = if bytes_eq x.1 (codes "asText") then Some x.0 else None

abbrev pub of_header : Option (List ℕ × List ℕ) → Option (List ℕ)
of_header None = None
of_header (Some x) =
    if bytes_eq x.0 (codes "header") then as_text_field (at_colon x.1) else None

-- NAME of header:NAME:asText
abbrev pub field_named : List ℕ → Option (List ℕ)
field_named key = of_header (at_colon key)

abbrev pub is_same_field : List ℕ → Option (List ℕ) → Bool
is_same_field name None = false
is_same_field name (Some other) = is_same_name name other

-- how many members name this field, in either case
abbrev pub twin_count : List ℕ → List (List ℕ × Tree) → ℕ
twin_count name [] = 0
twin_count name (m ∷ ms) =
    if is_same_field name (field_named m.0) then 1 + twin_count name ms else twin_count name ms

-- a field that a draft may have, which no other member names
abbrev pub is_own_name : List (List ℕ × Tree) → Option (List ℕ) → Bool
is_own_name ms None = false
is_own_name ms (Some name) = is_free_name name && nat_le (twin_count name ms) 1

-- a property header:NAME:asText with a string
abbrev pub is_good_header : List (List ℕ × Tree) → List ℕ → Tree → Bool
is_good_header ms key t = is_text FieldText t && is_own_name ms (field_named key)

-- ---- what it means

abbrev pub put_field :
    Option (List ℕ) → Tree → List (List ℕ × Tree) → List (List ℕ × Tree)
put_field None t fields = fields
put_field (Some name) t fields = put name (text (string_of t)) fields

-- the fields that members name, in byte order of their names
abbrev pub put_fields :
    List (List ℕ × Tree) → List (List ℕ × Tree) → List (List ℕ × Tree)
put_fields [] fields = fields
put_fields (m ∷ ms) fields = put_fields ms (put_field (field_named m.0) m.1 fields)

abbrev pub text_field : List ℕ × Tree → DraftField
text_field m = named m.0 (OfText (string_of m.1))

abbrev pub text_fields : List (List ℕ × Tree) → List DraftField
text_fields ms = map text_field (put_fields ms [])
