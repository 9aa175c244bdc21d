-- What the flag `counts` of a put of a mailbox says. By it a client learns that only counts
-- changed (RFC 8621, 2.2: `updatedProperties`). It is a promise of plans: a valid account may hold
-- edits whose flag is wrong.
use Rattle.std.specs.Prelude.{◌≡◌, ◌↔◌, true, List, [], ◌∷◌, Option, Some, None, ⊤}
use Rattle.mail_records.specs.Contents.{Content, mailbox_at}
use Rattle.mail_records.specs.Edits.{after_edit}
use Rattle.mail_records.specs.declared.edits.Edit.{Edit}
use Rattle.mail_records.specs.declared.edits.Edit.TheVariants.{PutMailbox}
use Rattle.mail_records.specs.declared.records.Mailbox.{Mailbox}

-- Two mailboxes agree in everything but their four counts.
pub record SameButCounts (m n : Mailbox) : Type 0 where
  pub number : m.number ≡ n.number
  pub name : m.name ≡ n.name
  pub parent : m.parent ≡ n.parent
  pub role : m.role ≡ n.role
  pub sort_order : m.sort_order ≡ n.sort_order
  pub subscribed : m.subscribed ≡ n.subscribed

-- There was a mailbox before, and only its four counts differ from those of the new one.
abbrev pub ChangesOnlyCounts : Option Mailbox → Mailbox → Type 0
ChangesOnlyCounts None new = ⊥
ChangesOnlyCounts (Some old) new = SameButCounts old new

-- A put of a mailbox has the flag if and only if the mailbox was there and the put changes only its
-- four counts.
abbrev pub IsCountsFlagRight : Content → Edit → Type 0
IsCountsFlagRight c (PutMailbox item was counts) =
    (counts ≡ true) ↔ ChangesOnlyCounts (mailbox_at c item.number) item
IsCountsFlagRight c _ = ⊤

-- each edit's flag is right in the content before it
abbrev pub AreCountsFlagsRight : Content → List Edit → Type 0
AreCountsFlagsRight c [] = ⊤
AreCountsFlagsRight c (e ∷ es) = IsCountsFlagRight c e × AreCountsFlagsRight (after_edit c e) es
