-- The names of properties: of an email (RFC 8621, 4.1 and 4.1.3), and of a body part (4.1.4).
use Rattle.std.specs.Prelude.{ℕ, Bool, true, false, ◌&&◌, ◌||◌, not, ◌==◌, nat_lt, List, [], ◌∷◌, ◌++◌, length, Option, Some, None, option_map, option_and_then, bytes_eq, codes, if◌then◌else◌}
use Rattle.std.specs.List.{list_all, list_any, position_or_len, before_first, after_first}
use Rattle.mime_lines.specs.Fields.{is_name_byte}
use Rattle.mail_text.specs.Texts.{is_same_name}
use Rattle.header_forms.specs.declared.form.Form.{Form}
use Rattle.header_forms.specs.declared.form.Form.TheVariants.{Raw, Text, Addresses, GroupedAddresses, MessageIds, Date, Urls}
use Rattle.get_args.specs.declared.property.HeaderProperty.{HeaderProperty}
use Rattle.get_args.specs.declared.property.Property.{Property}
use Rattle.get_args.specs.declared.property.Property.TheVariants as email
use Rattle.get_args.specs.declared.property.MetadataProperty.TheVariants as metadata
use Rattle.get_args.specs.declared.property.PartProperty.{PartProperty}
use Rattle.get_args.specs.declared.property.PartProperty.TheVariants as part

-- the fields that have each form besides Raw (RFC 8621, 4.1.2)
abbrev pub text_fields : List (List ℕ)
text_fields = codes "Subject" ∷ codes "Comments" ∷ codes "Keywords" ∷ codes "List-Id" ∷ []

abbrev pub address_fields : List (List ℕ)
address_fields =
    codes "From" ∷ codes "Sender" ∷ codes "Reply-To" ∷ codes "To" ∷ codes "Cc" ∷ codes "Bcc"
    ∷ codes "Resent-From" ∷ codes "Resent-Sender" ∷ codes "Resent-To" ∷ codes "Resent-Cc"
    ∷ codes "Resent-Bcc" ∷ []

abbrev pub id_fields : List (List ℕ)
id_fields =
    codes "Message-ID" ∷ codes "In-Reply-To" ∷ codes "References" ∷ codes "Resent-Message-ID" ∷ []

abbrev pub date_fields : List (List ℕ)
date_fields = codes "Date" ∷ codes "Resent-Date" ∷ []

abbrev pub url_fields : List (List ℕ)
url_fields =
    codes "List-Help" ∷ codes "List-Unsubscribe" ∷ codes "List-Subscribe" ∷ codes "List-Post"
    ∷ codes "List-Owner" ∷ codes "List-Archive" ∷ []

-- the fields that have no other form
abbrev pub raw_fields : List (List ℕ)
raw_fields = codes "Return-Path" ∷ codes "Received" ∷ []

-- the name is one of these, in either case
abbrev pub is_one_of : List (List ℕ) → List ℕ → Bool
is_one_of names name = list_any (is_same_name name) names

-- a field of none of these names: it may be asked for in every form
abbrev pub is_other : List ℕ → Bool
is_other name =
    not (is_one_of text_fields name
    || (is_one_of address_fields name
    || (is_one_of id_fields name
    || (is_one_of date_fields name
    || (is_one_of url_fields name || is_one_of raw_fields name)))))

-- a field of this name may be asked for in this form
abbrev pub is_allowed : Form → List ℕ → Bool
is_allowed Raw name = true
is_allowed Text name = is_one_of text_fields name || is_other name
is_allowed Addresses name = is_one_of address_fields name || is_other name
is_allowed GroupedAddresses name = is_one_of address_fields name || is_other name
is_allowed MessageIds name = is_one_of id_fields name || is_other name
is_allowed Date name = is_one_of date_fields name || is_other name
is_allowed Urls name = is_one_of url_fields name || is_other name

abbrev pub form_named : List ℕ → Option Form
form_named text =
    if bytes_eq text (codes "asRaw") then Some Raw
    else (if bytes_eq text (codes "asText") then Some Text
    else (if bytes_eq text (codes "asAddresses") then Some Addresses
    else (if bytes_eq text (codes "asGroupedAddresses") then Some GroupedAddresses
    else (if bytes_eq text (codes "asMessageIds") then Some MessageIds
    else (if bytes_eq text (codes "asDate") then Some Date
    else (if bytes_eq text (codes "asURLs") then Some Urls else None))))))

-- a name that a field may have: one or more characters from ! to ~ without the colon (RFC 5322,
-- 3.6.8)
abbrev pub is_field_name : List ℕ → Bool
is_field_name name = nat_lt 0 (length name) && list_all is_name_byte name

abbrev pub if_field : List ℕ → Form → Bool → Option HeaderProperty
if_field name form all =
    if is_field_name name && is_allowed form name
    then Some (record { field = name; form = form; all = all })
    else None

-- in the form of a name such as asText
abbrev pub in_form : List ℕ → List ℕ → Bool → Option HeaderProperty
in_form name form all = option_and_then (λ f. if_field name f all) (form_named form)

abbrev pub is_all : List ℕ → Bool
is_all text = bytes_eq text (codes "all")

abbrev pub is_colon : ℕ → Bool
is_colon b = b == 58

-- the string before the first colon, and the string after it
abbrev pub at_colon : List ℕ → Option (List ℕ × List ℕ)
at_colon text =
    if nat_lt (position_or_len is_colon text) (length text)
    then Some (before_first is_colon text, after_first is_colon text)
    else None

-- a field's name, and after it `all`, a form, or a form and `all`
abbrev pub after_name : List ℕ → List ℕ → Option (List ℕ × List ℕ) → Option HeaderProperty
after_name name form None = if is_all form then if_field name Raw true else in_form name form false
after_name name form (Some x) = if is_all x.1 then in_form name x.0 true else None

abbrev pub by_name : List ℕ → Option (List ℕ × List ℕ) → Option HeaderProperty
by_name name None = if_field name Raw false
by_name name (Some x) = after_name x.0 x.1 (at_colon x.1)

-- NAME, NAME:all, NAME:asFORM or NAME:asFORM:all
abbrev pub field_asked : List ℕ → Option HeaderProperty
field_asked text = by_name text (at_colon text)

abbrev pub if_header : Option (List ℕ × List ℕ) → Option HeaderProperty
if_header None = None
if_header (Some x) = if bytes_eq x.0 (codes "header") then field_asked x.1 else None

-- a header field by its property name, as header:NAME:asFORM:all (RFC 8621, 4.1.3)
abbrev pub header_named : List ℕ → Option HeaderProperty
header_named text = if_header (at_colon text)

-- the last field of a name, in a form
abbrev pub last_field : List ℕ × Form → Property
last_field x = email.Header (record { field = x.0; form = x.1; all = false })

-- the field, and its form, that a property names (RFC 8621, 4.1.3)
abbrev pub field_form : List ℕ → Option (List ℕ × Form)
field_form name =
    if bytes_eq name (codes "bcc") then Some (codes "Bcc", Addresses)
    else (if bytes_eq name (codes "cc") then Some (codes "Cc", Addresses)
    else (if bytes_eq name (codes "from") then Some (codes "From", Addresses)
    else (if bytes_eq name (codes "inReplyTo") then Some (codes "In-Reply-To", MessageIds)
    else (if bytes_eq name (codes "messageId") then Some (codes "Message-ID", MessageIds)
    else (if bytes_eq name (codes "references") then Some (codes "References", MessageIds)
    else (if bytes_eq name (codes "replyTo") then Some (codes "Reply-To", Addresses)
    else (if bytes_eq name (codes "sender") then Some (codes "Sender", Addresses)
    else (if bytes_eq name (codes "sentAt") then Some (codes "Date", Date)
    else (if bytes_eq name (codes "subject") then Some (codes "Subject", Text)
    else (if bytes_eq name (codes "to") then Some (codes "To", Addresses) else None))))))))))

-- the other properties of an email (RFC 8621, 4.1.1 and 4.1.4)
abbrev pub own_property : List ℕ → Option Property
own_property name =
    if bytes_eq name (codes "attachments") then Some email.Attachments
    else (if bytes_eq name (codes "blobId") then Some (email.Metadata metadata.BlobId)
    else (if bytes_eq name (codes "bodyStructure") then Some email.BodyStructure
    else (if bytes_eq name (codes "bodyValues") then Some email.BodyValues
    else (if bytes_eq name (codes "hasAttachment") then Some email.HasAttachment
    else (if bytes_eq name (codes "headers") then Some email.Headers
    else (if bytes_eq name (codes "htmlBody") then Some email.HtmlBody
    else (if bytes_eq name (codes "id") then Some (email.Metadata metadata.Id)
    else (if bytes_eq name (codes "keywords") then Some (email.Metadata metadata.Keywords)
    else (if bytes_eq name (codes "mailboxIds") then Some (email.Metadata metadata.MailboxIds)
    else (if bytes_eq name (codes "preview") then Some email.Preview
    else (if bytes_eq name (codes "receivedAt") then Some (email.Metadata metadata.ReceivedAt)
    else (if bytes_eq name (codes "size") then Some (email.Metadata metadata.Size)
    else (if bytes_eq name (codes "textBody") then Some email.TextBody
    else (if bytes_eq name (codes "threadId") then Some (email.Metadata metadata.ThreadId)
    else None))))))))))))))

abbrev pub or_else : {A : Type 0} → Option A → Option A → Option A
or_else None other = other
or_else (Some a) other = Some a

-- the property of an email that a name means
abbrev pub property_named : List ℕ → Option Property
property_named name =
    or_else (own_property name)
    (or_else (option_map last_field (field_form name))
    (option_map email.Header (header_named name)))

-- the properties of a body part but the fields of its header (RFC 8621, 4.1.4)
abbrev pub own_part_property : List ℕ → Option PartProperty
own_part_property name =
    if bytes_eq name (codes "blobId") then Some part.BlobId
    else (if bytes_eq name (codes "charset") then Some part.Charset
    else (if bytes_eq name (codes "cid") then Some part.Cid
    else (if bytes_eq name (codes "disposition") then Some part.Disposition
    else (if bytes_eq name (codes "headers") then Some part.Headers
    else (if bytes_eq name (codes "language") then Some part.Language
    else (if bytes_eq name (codes "location") then Some part.Location
    else (if bytes_eq name (codes "name") then Some part.Name
    else (if bytes_eq name (codes "partId") then Some part.PartId
    else (if bytes_eq name (codes "size") then Some part.Size
    else (if bytes_eq name (codes "subParts") then Some part.SubParts
    else (if bytes_eq name (codes "type") then Some part.MediaType else None)))))))))))

-- the property of a body part that a name means
abbrev pub part_property_named : List ℕ → Option PartProperty
part_property_named name =
    or_else (own_part_property name) (option_map part.Header (header_named name))
