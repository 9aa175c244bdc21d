-- The JSON view of a message (RFC 8621, 4.1, 4.2 and 4.9).
use Rattle.std.specs.Prelude.{ℕ, ℤ, pos, Bool, true, ◌&&◌, not, int_lt, List, [], ◌∷◌, length, map, Option, Some, None, if◌then◌else◌}
use Rattle.std.specs.Str.Lossy.{utf8_lossy}
use Rattle.jm_base.specs.Ids.{id_text}
use Rattle.jm_base.specs.UtcDates.{utc_text}
use Rattle.jm_base.specs.declared.identifiers.UtcDate.{UtcDate}
use Rattle.jm_base.specs.declared.utc_dates.TheConstants.{FIRST_TIMESTAMP, LAST_TIMESTAMP}
use Rattle.jm_base.specs.declared.identifiers.Kind.{Kind}
use Rattle.jm_base.specs.declared.identifiers.Kind.TheVariants.{Mailbox as OfMailbox, Email as OfEmail, Thread as OfThread}
use Rattle.jm_json.specs.Tree.{Tree, null, boolean, number, text, object, fields_of}
use Rattle.mail_records.specs.declared.records.Email.{Email as EmailRecord}
use Rattle.mime_tree.specs.PartLimit.{parts_of}
use Rattle.body_lists.specs.Lists.{lists_in}
use Rattle.mail_summary.specs.Leaves.{has_attachment_in}
use Rattle.mail_summary.specs.Texts.{preview}
use Rattle.mail_view.specs.Objects.{members_tree, put_all}
use Rattle.mail_view.specs.Headers.{header_tree, headers_tree}
use Rattle.mail_view.specs.Parts.{structure_tree, leaves_tree}
use Rattle.mail_view.specs.Values.{values_tree}
use Rattle.get_args.specs.declared.property.MetadataProperty.{MetadataProperty}
use Rattle.get_args.specs.declared.property.MetadataProperty.TheVariants.{Id, BlobId, ThreadId, MailboxIds, Keywords, Size, ReceivedAt}
use Rattle.get_args.specs.declared.property.Property.{Property}
use Rattle.get_args.specs.declared.property.Property.TheVariants.{Metadata, Header, Headers, BodyStructure, BodyValues, TextBody, HtmlBody, Attachments, HasAttachment, Preview}
use Rattle.get_args.specs.declared.property.NamedProperty.{NamedProperty}
use Rattle.get_args.specs.declared.wanted.Wanted.{Wanted}

-- a property of an email's record; null for a message that is no email (RFC 8621, 4.9)
abbrev pub known_of : (EmailRecord → Tree) → Option EmailRecord → Tree
known_of show None = null
known_of show (Some e) = show e

abbrev pub identifier : Kind → ℕ → List ℕ
identifier kind n = id_text (record { kind = kind; number = n })

abbrev pub id_tree : EmailRecord → Tree
id_tree e = text (identifier OfEmail e.number)

abbrev pub thread_tree : EmailRecord → Tree
thread_tree e = text (identifier OfThread e.thread)

-- an object with each of these keys, and true at each
abbrev pub set_tree : List (List ℕ) → Tree
set_tree keys = members_tree (map (λ k. (k, boolean true)) keys)

abbrev pub mailboxes_tree : EmailRecord → Tree
mailboxes_tree e = set_tree (map (identifier OfMailbox) e.mailboxes)

abbrev pub keywords_tree : EmailRecord → Tree
keywords_tree e = set_tree e.keywords

-- a date from `FIRST_TIMESTAMP` to `LAST_TIMESTAMP`; no other date has a text
abbrev pub has_date_text : UtcDate → Bool
has_date_text date =
    not (int_lt date.seconds FIRST_TIMESTAMP) && not (int_lt (pos LAST_TIMESTAMP) date.seconds)

abbrev pub date_tree : UtcDate → Tree
date_tree date = if has_date_text date then text (utc_text date) else null

abbrev pub received_tree : EmailRecord → Tree
received_tree e = date_tree e.received

-- A metadata property (RFC 8621, 4.1.1) of a message with these bytes and this blob id, and of the
-- email that it is, if it is one. No line of the message is read for it.
abbrev pub known_tree : List ℕ → List ℕ → Option EmailRecord → MetadataProperty → Tree
known_tree bytes blob email Id = known_of id_tree email
known_tree bytes blob email BlobId = text blob
known_tree bytes blob email ThreadId = known_of thread_tree email
known_tree bytes blob email MailboxIds = known_of mailboxes_tree email
known_tree bytes blob email Keywords = known_of keywords_tree email
known_tree bytes blob email Size = number (pos (length bytes))
known_tree bytes blob email ReceivedAt = known_of received_tree email

-- the leaves of these numbers
abbrev pub list_of_leaves : List ℕ → List ℕ → Wanted → List ℕ → Tree
list_of_leaves bytes blob wanted numbers =
    leaves_tree bytes blob wanted.parts (parts_of bytes) numbers

-- every property
abbrev pub property_tree :
    List ℕ → List ℕ → Option EmailRecord → Wanted → Property → Tree
property_tree bytes blob email wanted (Metadata property) = known_tree bytes blob email property
property_tree bytes blob email wanted (Header asked) = header_tree bytes asked
property_tree bytes blob email wanted Headers = headers_tree bytes
property_tree bytes blob email wanted BodyStructure =
    structure_tree bytes blob wanted.parts (parts_of bytes)
property_tree bytes blob email wanted BodyValues = values_tree bytes wanted (parts_of bytes)
property_tree bytes blob email wanted TextBody =
    list_of_leaves bytes blob wanted (lists_in (parts_of bytes)).text
property_tree bytes blob email wanted HtmlBody =
    list_of_leaves bytes blob wanted (lists_in (parts_of bytes)).html
property_tree bytes blob email wanted Attachments =
    list_of_leaves bytes blob wanted (lists_in (parts_of bytes)).attachments
property_tree bytes blob email wanted HasAttachment = boolean (has_attachment_in (parts_of bytes))
property_tree bytes blob email wanted Preview = text (preview bytes)

abbrev pub view_member :
    List ℕ → List ℕ → Option EmailRecord → Wanted → NamedProperty → List ℕ × Tree
view_member bytes blob email wanted asked =
    (asked.name, property_tree bytes blob email wanted asked.property)

-- the members of the view: the properties that are asked for, by the names that the client used
abbrev pub view_members :
    List ℕ → List ℕ → Option EmailRecord → Wanted → List (List ℕ × Tree)
view_members bytes blob email wanted =
    put_all (map (view_member bytes blob email wanted) wanted.properties) []

-- The JSON view of a message with these bytes and this blob id, and of the email that it is, if it
-- is one (RFC 8621, 4.1). A blob id is ASCII.
abbrev pub view_tree : List ℕ → List ℕ → Option EmailRecord → Wanted → Tree
view_tree bytes blob email wanted =
    object (fields_of (view_members bytes (utf8_lossy blob) email wanted))
