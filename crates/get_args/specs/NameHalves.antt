-- The tables of names in two halves, each of which is read by a function of its own.
use Rattle.std.specs.Prelude.{ℕ, List, Option, Some, None, bytes_eq, codes, if◌then◌else◌}
use Rattle.header_forms.specs.declared.form.Form.{Form}
use Rattle.header_forms.specs.declared.form.Form.TheVariants.{Raw, Text, Addresses, GroupedAddresses, MessageIds, Date, Urls}
use Rattle.get_args.specs.declared.property.Property.{Property}
use Rattle.get_args.specs.declared.property.Property.TheVariants as email
use Rattle.get_args.specs.declared.property.MetadataProperty.TheVariants as metadata
use Rattle.get_args.specs.declared.property.PartProperty.{PartProperty}
use Rattle.get_args.specs.declared.property.PartProperty.TheVariants as part

-- the properties of an email that name no header field
abbrev pub first_own_property : List ℕ → Option Property
first_own_property name =
    if bytes_eq name (codes "attachments") then Some email.Attachments
    else (if bytes_eq name (codes "blobId") then Some (email.Metadata metadata.BlobId)
    else (if bytes_eq name (codes "bodyStructure") then Some email.BodyStructure
    else (if bytes_eq name (codes "bodyValues") then Some email.BodyValues
    else (if bytes_eq name (codes "hasAttachment") then Some email.HasAttachment
    else (if bytes_eq name (codes "headers") then Some email.Headers
    else (if bytes_eq name (codes "htmlBody") then Some email.HtmlBody
    else (if bytes_eq name (codes "id") then Some (email.Metadata metadata.Id)
    else None)))))))

abbrev pub last_own_property : List ℕ → Option Property
last_own_property name =
    if bytes_eq name (codes "keywords") then Some (email.Metadata metadata.Keywords)
    else (if bytes_eq name (codes "mailboxIds") then Some (email.Metadata metadata.MailboxIds)
    else (if bytes_eq name (codes "preview") then Some email.Preview
    else (if bytes_eq name (codes "receivedAt") then Some (email.Metadata metadata.ReceivedAt)
    else (if bytes_eq name (codes "size") then Some (email.Metadata metadata.Size)
    else (if bytes_eq name (codes "textBody") then Some email.TextBody
    else (if bytes_eq name (codes "threadId") then Some (email.Metadata metadata.ThreadId)
    else None))))))

-- the properties of a body part that are no fields of its header
abbrev pub first_own_part_property : List ℕ → Option PartProperty
first_own_part_property name =
    if bytes_eq name (codes "blobId") then Some part.BlobId
    else (if bytes_eq name (codes "charset") then Some part.Charset
    else (if bytes_eq name (codes "cid") then Some part.Cid
    else (if bytes_eq name (codes "disposition") then Some part.Disposition
    else (if bytes_eq name (codes "headers") then Some part.Headers
    else (if bytes_eq name (codes "language") then Some part.Language
    else None)))))

abbrev pub last_own_part_property : List ℕ → Option PartProperty
last_own_part_property name =
    if bytes_eq name (codes "location") then Some part.Location
    else (if bytes_eq name (codes "name") then Some part.Name
    else (if bytes_eq name (codes "partId") then Some part.PartId
    else (if bytes_eq name (codes "size") then Some part.Size
    else (if bytes_eq name (codes "subParts") then Some part.SubParts
    else (if bytes_eq name (codes "type") then Some part.MediaType
    else None)))))

-- the fields that properties name, and their forms
abbrev pub first_field_form : List ℕ → Option (List ℕ × Form)
first_field_form name =
    if bytes_eq name (codes "bcc") then Some (codes "Bcc", Addresses)
    else (if bytes_eq name (codes "cc") then Some (codes "Cc", Addresses)
    else (if bytes_eq name (codes "from") then Some (codes "From", Addresses)
    else (if bytes_eq name (codes "inReplyTo") then Some (codes "In-Reply-To", MessageIds)
    else (if bytes_eq name (codes "messageId") then Some (codes "Message-ID", MessageIds)
    else (if bytes_eq name (codes "references") then Some (codes "References", MessageIds)
    else None)))))

abbrev pub last_field_form : List ℕ → Option (List ℕ × Form)
last_field_form name =
    if bytes_eq name (codes "replyTo") then Some (codes "Reply-To", Addresses)
    else (if bytes_eq name (codes "sender") then Some (codes "Sender", Addresses)
    else (if bytes_eq name (codes "sentAt") then Some (codes "Date", Date)
    else (if bytes_eq name (codes "subject") then Some (codes "Subject", Text)
    else (if bytes_eq name (codes "to") then Some (codes "To", Addresses)
    else None))))

-- the forms that are asked for by name
abbrev pub first_form_named : List ℕ → Option Form
first_form_named text =
    if bytes_eq text (codes "asRaw") then Some Raw
    else (if bytes_eq text (codes "asText") then Some Text
    else (if bytes_eq text (codes "asAddresses") then Some Addresses
    else (if bytes_eq text (codes "asGroupedAddresses") then Some GroupedAddresses
    else None)))

abbrev pub last_form_named : List ℕ → Option Form
last_form_named text =
    if bytes_eq text (codes "asMessageIds") then Some MessageIds
    else (if bytes_eq text (codes "asDate") then Some Date
    else (if bytes_eq text (codes "asURLs") then Some Urls
    else None))
