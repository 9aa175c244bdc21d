-- One copy: why it is rejected, and the email and the blob that it creates (RFC 8620, 5.4; RFC
-- 8621, 4.7). What it shares with other creates of emails is defined in `email_creates`.
use Rattle.std.specs.Prelude.{ℕ, List, [], ◌∷◌, ◌++◌, drop, length, map, Bool, Option, Some, None, option_and_then, codes}
use Rattle.jm_base.specs.declared.identifiers.UtcDate.{UtcDate}
use Rattle.jm_json.specs.Tree.{Tree}
use Rattle.jm_json.specs.Find.{find}
use Rattle.jm_json.specs.declared.invocation.Created.{Created}
use Rattle.blob_store.specs.Blobs.{has_room}
use Rattle.mail_records.specs.Contents.{Content, mailbox_number}
use Rattle.email_creates.specs.Emails.{Progress, after_check, after_rejected, email_of, next_blob}
use Rattle.email_creates.specs.Errors.{error_of, with_invalid}
use Rattle.email_creates.specs.Properties.{received_in}
use Rattle.email_creates.specs.declared.properties.Sent.{Sent}
use Rattle.method_args.specs.Arguments.{text_in}
use Rattle.set_parts.specs.Arguments.{Create}
use Rattle.set_parts.specs.Names.{keywords_in, mailboxes_in}
use Rattle.set_parts.specs.declared.set_errors.SetError.{SetError}
use Rattle.set_parts.specs.declared.set_errors.SetError.TheVariants.{NotFound}
use Rattle.mail_copies.specs.Carried.{Delivery, carried_date, carried_keywords}

-- ---- the properties of the copy

-- the keywords that are sent, else the original's; null is invalid
abbrev pub keywords_or : List (List ℕ) → Option Tree → Option (List (List ℕ))
keywords_or original None = Some original
keywords_or original (Some t) = keywords_in (Some t)

-- the date that is sent, else the original's; null is invalid
abbrev pub received_or : UtcDate → Option Tree → Option (Option UtcDate)
received_or original None = Some (Some original)
received_or original (Some t) = received_in (Some t)

-- The properties of the copy of an original with this item (RFC 8620, 5.4: the members of a create
-- replace the original's; RFC 8621, 4.7: mailboxIds, keywords and receivedAt). Mailboxes must be
-- sent. Members of other names are ignored.
abbrev pub properties_in : Content → List Created → ℕ → List (List ℕ × Tree) → Tree → Sent
properties_in c made moment ms item = record {
  keywords = keywords_or (carried_keywords item) (find (codes "keywords") ms);
  mailboxes = mailboxes_in (map mailbox_number c.mailboxes) made (find (codes "mailboxIds") ms);
  received = received_or (carried_date moment item) (find (codes "receivedAt") ms);
}

-- ---- a copy after those before it: copies come as far as creates do, and bring blobs

-- The error of the copy of an original that was found, with these properties, which would be one
-- more of so many emails, and for whose message there is room among the blobs or not: the first of
-- `invalidProperties`, `tooManyKeywords`, `tooManyMailboxes` and `overQuota` (RFC 8620, 5.3 and
-- 5.4). None if the copy is made.
abbrev pub error_of_copy : ℕ → Bool → Sent → Option SetError
error_of_copy emails room a = error_of (with_invalid [] a) a emails room

-- After a copy of an original that was found, with these properties and this message: it is
-- rejected, or its email is created and brings the message as a blob of its own.
abbrev pub after_found : List (List ℕ) → ℕ → Progress → List ℕ → Sent → List ℕ → Progress
after_found blobs moment s creation a bytes =
    let all = blobs ++ s.creating.blobs in
    after_check s creation (email_of s moment a (next_blob all bytes)) (Some bytes)
    (error_of_copy (length s.creating.content.emails) (has_room (length bytes) all) a)

-- After a copy into an account with these blobs, at this timestamp in Unix seconds.
abbrev pub after_copy : List (List ℕ) → ℕ → Progress → Create → Option Delivery → Progress
after_copy blobs moment s x None = after_rejected s x.creation NotFound
after_copy blobs moment s x (Some d) =
    after_found blobs moment s x.creation
    (properties_in s.creating.content s.creating.made moment x.members d.item) d.bytes

-- What is delivered for a create: nothing if its `id` is no string.
abbrev pub delivery_for : Create → Option Delivery → Option Delivery
delivery_for x d = option_and_then (λ id. d) (text_in (codes "id") x.members)

-- what is delivered first
abbrev pub first_delivery : List (Option Delivery) → Option Delivery
first_delivery [] = None
first_delivery (d ∷ ds) = d

-- After copies, one after the other, for each of which this is delivered, and nothing if it has no
-- delivery.
abbrev pub after_copies : List (List ℕ) → ℕ → Progress → List Create → List (Option Delivery)
    → Progress
after_copies blobs moment s [] ds = s
after_copies blobs moment s (x ∷ xs) ds =
    after_copies blobs moment
    (after_copy blobs moment s x (delivery_for x (first_delivery ds))) xs (drop 1 ds)
