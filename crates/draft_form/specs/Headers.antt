-- The properties of a draft that are header fields (RFC 8621, sections 4.1.2, 4.1.3 and 4.6).
use Rattle.std.specs.Prelude.{ℕ, Bool, false, ◌&&◌, ◌||◌, List, [], ◌∷◌, ◌++◌, map, Option, Some, None, option_map, option_and_then, unwrap_or, is_some, codes, if◌then◌else◌}
use Rattle.jm_json.specs.Tree.{Tree}
use Rattle.jm_json.specs.Find.{find, as_text}
use Rattle.header_forms.specs.declared.address.Address.{Address as HeaderAddress}
use Rattle.draft_form.specs.Members.{has_names, is_list, is_null, is_object, is_some_list, is_text, list_items, members_in, string_of, optional, required, text_at, texts_in}
use Rattle.draft_form.specs.Dates.{date_time_at, is_sent_at}
use Rattle.draft_form.specs.declared.texts.TextRule.TheVariants.{Identifier, Address, DisplayName, FieldText}
use Rattle.mime_writer.specs.declared.dates.DateTime.{DateTime}
use Rattle.draft_form.specs.declared.draft.DraftField.{DraftField}
use Rattle.draft_form.specs.declared.draft.FieldValue.{FieldValue}
use Rattle.draft_form.specs.declared.draft.FieldValue.TheVariants.{OfAddresses, OfText, OfIdentifiers}
use Rattle.draft_form.specs.declared.draft.ValueForm.{ValueForm}
use Rattle.draft_form.specs.declared.draft.ValueForm.TheVariants.{Addresses, Plain, Identifiers}

-- ---- the form

abbrev pub address_names : List (List ℕ)
address_names = codes "email" ∷ codes "name" ∷ []

-- an address, and perhaps a name
abbrev pub has_address : List (List ℕ × Tree) → Bool
has_address ms =
    has_names address_names ms
    && (required (is_text Address) (find (codes "email") ms)
    && optional (is_text DisplayName) (find (codes "name") ms))

-- a value of a property of this form
abbrev pub is_value : ValueForm → Tree → Bool
is_value Addresses t = is_list (is_object has_address) t
is_value Plain t = is_text FieldText t
is_value Identifiers t = is_some_list (is_text Identifier) t

-- ---- what it means

abbrev pub address_from : List (List ℕ × Tree) → HeaderAddress
address_from ms = record {
  email = unwrap_or (text_at (codes "email") ms) [];
  name = text_at (codes "name") ms;
}

abbrev pub address_of : Tree → HeaderAddress
address_of t = address_from (members_in t)

abbrev pub value_of : ValueForm → Tree → FieldValue
value_of Addresses t = OfAddresses (map address_of (list_items t))
value_of Plain t = OfText (string_of t)
value_of Identifiers t = OfIdentifiers (texts_in (list_items t))

-- the value of a property that is given
abbrev pub given_value : ValueForm → Option Tree → Option FieldValue
given_value form None = None
given_value form (Some t) = if is_null t then None else Some (value_of form t)

abbrev pub named : List ℕ → FieldValue → DraftField
named name value = record { name = name; value = value }

-- the field of a property that is given
abbrev pub fields_if : List ℕ → Option FieldValue → List DraftField
fields_if name None = []
fields_if name (Some value) = named name value ∷ []

abbrev pub field_at :
    List ℕ → ValueForm → List ℕ → List (List ℕ × Tree) → List DraftField
field_at name form property ms = fields_if name (given_value form (find property ms))

-- those of addresses and of the subject, in the order of a message
abbrev pub first_fields : List (List ℕ × Tree) → List DraftField
first_fields ms =
    field_at (codes "From") Addresses (codes "from") ms
    ++ (field_at (codes "Sender") Addresses (codes "sender") ms
    ++ (field_at (codes "Reply-To") Addresses (codes "replyTo") ms
    ++ (field_at (codes "To") Addresses (codes "to") ms
    ++ (field_at (codes "Cc") Addresses (codes "cc") ms
    ++ (field_at (codes "Bcc") Addresses (codes "bcc") ms
    ++ field_at (codes "Subject") Plain (codes "subject") ms)))))

-- those of the messages that this one replies to
abbrev pub reply_fields : List (List ℕ × Tree) → List DraftField
reply_fields ms =
    field_at (codes "In-Reply-To") Identifiers (codes "inReplyTo") ms
    ++ field_at (codes "References") Identifiers (codes "references") ms

-- the identifier, if it is given
abbrev pub given_id : Option Tree → Option (List (List ℕ))
given_id None = None
given_id (Some t) = if is_null t then None else Some (texts_in (list_items t))

-- ---- the date

abbrev pub is_date_text : Option (List ℕ) → Bool
is_date_text None = false
is_date_text (Some s) = is_sent_at s

abbrev pub is_date : Tree → Bool
is_date t = is_date_text (as_text t)

abbrev pub date_of : Tree → DateTime
date_of t = date_time_at (string_of t)

-- the date, if it is given
abbrev pub given_date : Option Tree → Option DateTime
given_date None = None
given_date (Some t) = if is_null t then None else Some (date_of t)
