-- What an Email/copy fetches from the account of the originals (RFC 8620, 5.4; RFC 8621, 4.7).
use Rattle.std.specs.Prelude.{ℕ, List, [], ◌∷◌, map, Option, Some, None, option_and_then, option_map, codes}
use Rattle.jm_base.specs.declared.identifiers.Kind.TheVariants.{Email as OfEmail}
use Rattle.jm_json.specs.Tree.{Tree, null, object, fields_of}
use Rattle.jm_json.specs.Find.{as_object}
use Rattle.account_book.specs.declared.asks.Carried.{Carried}
use Rattle.mail_records.specs.Contents.{Content}
use Rattle.mail_records.specs.Histories.{History, blobs_of, content_of}
use Rattle.mail_records.specs.States.{state_of}
use Rattle.mail_records.specs.declared.records.Email.{Email}
use Rattle.mail_view.specs.Emails.{blob_bytes, email_named}
use Rattle.mail_view.specs.View.{keywords_tree, received_tree}
use Rattle.method_args.specs.Arguments.{text_in}
use Rattle.set_parts.specs.Arguments.{Create, creates_in}
use Rattle.set_parts.specs.Outcomes.{Outcome, invalid}
use Rattle.mail_copies.specs.Carried.{Delivery}
use Rattle.mail_copies.specs.Arguments.{count_copies, rejected_unless}

-- the original that a create names: None if its `id` is no string, or names no email
abbrev pub original_named : List Email → Create → Option Email
original_named emails x = option_and_then (email_named emails) (text_in (codes "id") x.members)

-- the original of each create, in byte order of the creation ids
abbrev pub originals_in : List Email → List (List ℕ × Tree) → List (Option Email)
originals_in emails ms = map (original_named emails) (creates_in ms)

-- what Email/get gives of the properties that a copy takes from its original, unless it sends them
abbrev pub original_members : Email → List (List ℕ × Tree)
original_members e =
    (codes "keywords", keywords_tree e) ∷ (codes "receivedAt", received_tree e) ∷ []

-- the item of an original; null if there is none
abbrev pub item_of : Option Email → Tree
item_of None = null
item_of (Some e) = object (fields_of (original_members e))

-- the messages of those originals that there are
abbrev pub messages_of : List (List ℕ) → List (Option Email) → List (List ℕ)
messages_of blobs [] = []
messages_of blobs (None ∷ os) = messages_of blobs os
messages_of blobs (Some e ∷ os) = blob_bytes blobs e.blob ∷ messages_of blobs os

-- what is delivered of an original, if there is one: its item and its message
abbrev pub delivery_from : List (List ℕ) → Option Email → Option Delivery
delivery_from blobs o =
    option_map (λ e. record { item = item_of (Some e); bytes = blob_bytes blobs e.blob }) o

-- What is carried: an item for each create, and the message of each original, both in order.
abbrev pub carried_of : List (List ℕ) → List (Option Email) → Carried
carried_of blobs originals =
    record { emails = map item_of originals; blobs = messages_of blobs originals }

abbrev pub carried_by : Content → List (List ℕ) → Option (List (List ℕ × Tree)) → Carried
carried_by c blobs None = record { emails = []; blobs = [] }
carried_by c blobs (Some ms) = carried_of blobs (originals_in c.emails ms)

-- what an Email/copy with these arguments fetches, in an account with this history, at its end
abbrev pub fetched_in : History → Tree → Carried
fetched_in h args = carried_by (content_of h) (blobs_of h) (as_object args)

-- Why nothing is fetched: the first argument in byte order that does not have its form, then too
-- many copies, then `ifFromInState` that is not the state of the account's emails.
abbrev pub rejection_by : ℕ → Option (List (List ℕ × Tree)) → Option Outcome
rejection_by state None = Some (invalid [])
rejection_by state (Some ms) = rejected_unless (codes "ifFromInState") (count_copies ms) state ms

abbrev pub fetch_rejection : History → Tree → Option Outcome
fetch_rejection h args = rejection_by (state_of h OfEmail) (as_object args)
