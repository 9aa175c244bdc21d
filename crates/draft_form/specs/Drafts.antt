-- The create of an email whose message is written by the server (RFC 8621, section 4.6): its form,
-- and what it says. Where it is filed (mailboxIds, keywords and receivedAt) is looked at elsewhere.
use Rattle.std.specs.Prelude.{ℕ, Bool, true, ◌||◌, not, List, [], ◌∷◌, ◌++◌, map, filter, codes, bytes_eq, if◌then◌else◌}
use Rattle.jm_json.specs.Tree.{Tree}
use Rattle.jm_json.specs.Find.{find}
use Rattle.draft_form.specs.Members.{is_name_of, is_null}
use Rattle.draft_form.specs.Headers.{first_fields, given_date, given_id, is_date, is_value, reply_fields}
use Rattle.draft_form.specs.Names.{is_good_header, text_fields}
use Rattle.draft_form.specs.Bodies.{are_attachments, are_values, is_body, is_structure, structure_in}
use Rattle.draft_form.specs.Structures.{DraftParts, ids_of}
use Rattle.draft_form.specs.Rows.{rows_of}
use Rattle.draft_form.specs.declared.draft.Draft.{Draft}
use Rattle.draft_form.specs.declared.draft.DraftField.{DraftField}
use Rattle.draft_form.specs.declared.draft.DraftRows.{DraftRows}
use Rattle.draft_form.specs.declared.draft.ValueForm.{ValueForm}
use Rattle.draft_form.specs.declared.draft.ValueForm.TheVariants.{Addresses, Plain, Identifiers}

-- ---- the form

-- the properties that say where an email is filed
abbrev pub filing_names : List (List ℕ)
filing_names = codes "keywords" ∷ codes "mailboxIds" ∷ codes "receivedAt" ∷ []

abbrev pub address_properties : List (List ℕ)
address_properties =
    codes "bcc" ∷ codes "cc" ∷ codes "from" ∷ codes "replyTo" ∷ codes "sender" ∷ codes "to" ∷ []

abbrev pub id_properties : List (List ℕ)
id_properties = codes "inReplyTo" ∷ codes "messageId" ∷ codes "references" ∷ []

-- null, or a value of this form
abbrev pub may_be : ValueForm → Tree → Bool
may_be form t = is_null t || is_value form t

-- a property of the body, or one that names a header field
abbrev pub is_good_body : List (List ℕ × Tree) → List ℕ → Tree → Bool
is_good_body ms name t =
    if bytes_eq name (codes "bodyStructure") then is_structure ms t
    else (if bytes_eq name (codes "textBody") then is_body ms (codes "text/plain") t
    else (if bytes_eq name (codes "htmlBody") then is_body ms (codes "text/html") t
    else (if bytes_eq name (codes "attachments") then are_attachments ms t
    else (if bytes_eq name (codes "bodyValues") then are_values t
    else is_good_header ms name t))))

-- a property of a create with these members
abbrev pub is_good : List (List ℕ × Tree) → List ℕ → Tree → Bool
is_good ms name t =
    if is_name_of filing_names name then true
    else (if is_name_of address_properties name then may_be Addresses t
    else (if is_name_of id_properties name then may_be Identifiers t
    else (if bytes_eq name (codes "subject") then may_be Plain t
    else (if bytes_eq name (codes "sentAt") then is_null t || is_date t
    else is_good_body ms name t))))

abbrev pub bad_among : List (List ℕ × Tree) → List (List ℕ × Tree) → List (List ℕ)
bad_among ms [] = []
bad_among ms (m ∷ later) =
    if is_good ms m.0 m.1 then bad_among ms later else m.0 ∷ bad_among ms later

-- the names of the properties that are invalid, in byte order as the members are
abbrev pub bad_names : List (List ℕ × Tree) → List (List ℕ)
bad_names ms = bad_among ms ms

-- ---- what it says

-- the fields after the identifier
abbrev pub later_fields : List (List ℕ × Tree) → List DraftField
later_fields ms = reply_fields ms ++ text_fields ms

abbrev pub draft_with : DraftRows → List (List ℕ × Tree) → Draft
draft_with parts ms = record {
  first = first_fields ms;
  date = given_date (find (codes "sentAt") ms);
  message_id = given_id (find (codes "messageId") ms);
  later = later_fields ms;
  parts = parts;
}

-- parts as steps in walk order, with the ids of their blobs
abbrev pub rows_in : DraftParts → DraftRows
rows_in p = record { rows = rows_of p; blob_ids = ids_of p }

abbrev pub draft_in : List (List ℕ × Tree) → Draft
draft_in ms = draft_with (rows_in (structure_in ms)) ms
