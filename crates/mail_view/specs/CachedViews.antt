-- What a client keeps of an account: the object of each record (RFC 8620, 5.1), of a mailbox or a
-- thread with all properties, and of an email with those that a client keeps.
use Rattle.std.specs.Prelude.{ℕ, pos, length, false, List, [], ◌∷◌, Bool, map, filter_map, filter, is_none, Option, None, option_map, codes}
use Rattle.jm_base.specs.declared.identifiers.Kind.{Kind}
use Rattle.jm_base.specs.declared.identifiers.Kind.TheVariants.{Mailbox as OfMailbox, Email as OfEmail, Thread as OfThread}
use Rattle.std.specs.Str.Lossy.{utf8_lossy}
use Rattle.header_forms.specs.declared.form.Form.TheVariants.{Addresses, Text}
use Rattle.jm_json.specs.Tree.{Tree, boolean, number, text, list, object, trees_of, fields_of}
use Rattle.blob_ids.specs.BlobIds.{blob_text}
use Rattle.mail_counts.specs.Views.{mailbox_id, mailbox_named}
use Rattle.mail_records.specs.Contents.{Content}
use Rattle.mail_records.specs.Histories.{History, blobs_of, content_at}
use Rattle.mail_records.specs.declared.records.Email.{Email}
use Rattle.mail_summary.specs.Leaves.{has_attachment_in}
use Rattle.mail_summary.specs.Texts.{preview}
use Rattle.mime_tree.specs.PartLimit.{parts_of}
use Rattle.get_args.specs.Wanted.{cached_arguments, cached_wanted}
use Rattle.get_args.specs.declared.property.HeaderProperty.{HeaderProperty}
use Rattle.mail_view.specs.Emails.{blob_bytes, email_named, email_view}
use Rattle.mail_view.specs.Gets.{reply_tree}
use Rattle.mail_view.specs.Headers.{header_tree}
use Rattle.mail_view.specs.Mailboxes.{mailbox_view}
use Rattle.mail_view.specs.Records.{first_mentions}
use Rattle.mail_view.specs.Threads.{thread_named, thread_view}
use Rattle.mail_view.specs.View.{id_tree, identifier, keywords_tree, mailboxes_tree, received_tree, thread_tree}

-- ---- objects

-- The id and the object of each record of a kind, in number order, where these are the blobs of the
-- account, which is read-only for the user or not.
abbrev pub views_in : Kind → Content → List (List ℕ) → Bool → List (List ℕ × Tree)
views_in OfMailbox c blobs read_only =
    map (λ m. (mailbox_id m.number, mailbox_view read_only None m)) c.mailboxes
views_in OfEmail c blobs read_only =
    map (λ e. (identifier OfEmail e.number, email_view blobs cached_wanted e)) c.emails
views_in OfThread c blobs read_only =
    map (λ t. (identifier OfThread t.number, thread_view None t)) c.threads

-- Those at a position of a history. The messages are read in the blobs of its end.
abbrev pub views_at : Kind → History → Bool → ℕ → List (List ℕ × Tree)
views_at kind h read_only k = views_in kind (content_at h k) (blobs_of h) read_only

-- the object of the record that an id names
abbrev pub view_named : Kind → Content → List (List ℕ) → Bool → List ℕ → Option Tree
view_named OfMailbox c blobs read_only id =
    option_map (mailbox_view read_only None) (mailbox_named c.mailboxes id)
view_named OfEmail c blobs read_only id =
    option_map (email_view blobs cached_wanted) (email_named c.emails id)
view_named OfThread c blobs read_only id =
    option_map (thread_view None) (thread_named c.threads id)

-- the members of an email's object, in byte order of their names; the header fields of its message
-- are shown in these forms
abbrev pub from_header : HeaderProperty
from_header = record { field = codes "From"; form = Addresses; all = false }

abbrev pub subject_header : HeaderProperty
subject_header = record { field = codes "Subject"; form = Text; all = false }

abbrev pub message_members : List ℕ → Email → List (List ℕ × Tree)
message_members bytes e =
    (codes "blobId", text (utf8_lossy (blob_text e.blob)))
    ∷ (codes "from", header_tree bytes from_header)
    ∷ (codes "hasAttachment", boolean (has_attachment_in (parts_of bytes)))
    ∷ (codes "id", id_tree e)
    ∷ (codes "keywords", keywords_tree e)
    ∷ (codes "mailboxIds", mailboxes_tree e)
    ∷ (codes "preview", text (preview bytes))
    ∷ (codes "receivedAt", received_tree e)
    ∷ (codes "size", number (pos (length bytes)))
    ∷ (codes "subject", header_tree bytes subject_header)
    ∷ (codes "threadId", thread_tree e)
    ∷ []

abbrev pub email_members : List (List ℕ) → Email → List (List ℕ × Tree)
email_members blobs e = message_members (blob_bytes blobs e.blob) e

-- ---- gets

-- the arguments of the get by which a client asks for records of an account
abbrev pub plain_arguments : List ℕ → List (List ℕ) → Tree
plain_arguments account ids =
    object (fields_of (
    (codes "accountId", text account) ∷ (codes "ids", list (trees_of (map text ids))) ∷ []))

abbrev pub client_get : Kind → List ℕ → List (List ℕ) → Tree
client_get OfMailbox account ids = plain_arguments account ids
client_get OfEmail account ids = cached_arguments account ids
client_get OfThread account ids = plain_arguments account ids

-- the arguments of the response, if these are the objects that ids name: each id counts once
abbrev pub named_reply
    : (List ℕ → Option Tree) → List ℕ → ℕ → List (List ℕ) → Tree
named_reply named account state ids =
    reply_tree account (filter_map named (first_mentions ids))
    (map text (filter (λ id. is_none (named id)) (first_mentions ids))) state
