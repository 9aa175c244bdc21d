-- What the create of an email says besides its message (RFC 8621, 4.1.1, 4.7 and 4.8). None means a
-- value that is invalid by itself, or that names what is not there.
use Rattle.std.specs.Prelude.{ℕ, ℤ, List, Option, Some, None, map, option_map, option_and_then, codes}
use Rattle.jm_base.specs.UtcSeconds.{utc_seconds}
use Rattle.jm_base.specs.declared.identifiers.UtcDate.{UtcDate}
use Rattle.jm_json.specs.Find.{as_text, find}
use Rattle.jm_json.specs.Tree.{Tree}
use Rattle.jm_json.specs.declared.invocation.Created.{Created}
use Rattle.mail_records.specs.Contents.{Content, mailbox_number}
use Rattle.set_parts.specs.Names.{keywords_in, mailboxes_in}
use Rattle.email_creates.specs.declared.properties.Sent.{Sent}

-- a blob of an account: its number and its bytes
pub record NamedBlob : Type 0 where
  pub number : ℕ
  pub bytes : List ℕ

-- ---- receivedAt

abbrev pub date_of : ℤ → UtcDate
date_of seconds = record { seconds = seconds }

-- the date that a string is (RFC 8620, 1.4: UTCDate)
abbrev pub date_named : List ℕ → Option UtcDate
date_named s = option_map date_of (utc_seconds s)

-- the date that is sent; no date if nothing is sent
abbrev pub received_in : Option Tree → Option (Option UtcDate)
received_in None = Some None
received_in (Some t) = option_map Some (option_and_then date_named (as_text t))

-- ---- all of them

-- the properties that a create sends, over a content and what the request has created up to here
abbrev pub sent_in : Content → List Created → List (List ℕ × Tree) → Sent
sent_in c made ms = record {
  keywords = keywords_in (find (codes "keywords") ms);
  mailboxes = mailboxes_in (map mailbox_number c.mailboxes) made (find (codes "mailboxIds") ms);
  received = received_in (find (codes "receivedAt") ms);
}
