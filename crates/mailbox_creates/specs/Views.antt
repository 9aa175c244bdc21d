-- What contracts see of the types of this crate.
use Rattle.std.specs.Prelude.{ℕ, List, Bool, not, ◌&&◌, nat_le, nat_lt, Some, Option, ◌≡◌, ◌<◌, ◌≤◌, None, option_map, length, map, slice_index_or, ◌||◌, is_some}
use Rattle.mail_records.specs.declared.records.Mailbox.{Mailbox}
use Rattle.mail_counts.specs.Tidy.{same_role, is_sibling}
use Rattle.std.specs.List.{list_any, remove}
use Rattle.mailbox_creates.specs.Properties.{SentProperties}
use Rattle.set_parts.specs.Arguments.{Create}
use Rattle.set_parts.specs.Creates.{Creating}
use Rattle.set_parts.specs.declared.arguments.SentCreate.{SentCreate}
use Rattle.mailbox_creates.specs.declared.properties.SentProperties.{SentProperties as TheSentProperties}
use Rattle.mailbox_creates.specs.Rounds.{taken_out}
use Rattle.set_parts.specs.CreatesViews.{KeepUp}
use Rattle.set_parts.specs.Views.{create_of, holds}
use Rattle.mail_records.specs.Contents.{Content, mailbox_at, mailbox_number}
use Rattle.mail_records.specs.Tables.{IsTable}
use Rattle.mailbox_creates.specs.declared.planner.Planner.{Planner}

-- ---- Mailboxes by whether a set has given their numbers. In a content that is kept in order each
-- number is below the next one; in any other a new mailbox may take the place of one that is there.

-- the mailbox has this role
abbrev pub has_role : List ℕ → Mailbox → Bool
has_role role m = same_role m.role (Some role)

-- the number was given by a set that began with the first number and has come to the next one
abbrev pub is_new : ℕ → ℕ → ℕ → Bool
is_new first next n = nat_le first n && nat_lt n next

-- the mailbox has such a number, and it passes
abbrev pub is_created : ℕ → ℕ → (Mailbox → Bool) → Mailbox → Bool
is_created first next test m = is_new first next m.number && test m

-- the mailbox has another number, and it passes
abbrev pub is_other : ℕ → ℕ → (Mailbox → Bool) → Mailbox → Bool
is_other first next test m = not (is_new first next m.number) && test m

-- ---- The properties that a create sends, as the code holds them.

abbrev pub properties_of : TheSentProperties → SentProperties
properties_of a = record {
  name = option_map (λ t. t.now) a.name;
  parent = a.parent;
  role = option_map (λ r. option_map (λ t. t.now) r) a.role;
  sort_order = a.sort_order;
  subscribed = a.subscribed;
}

-- ---- The first draft that is ready.

-- it is the index of the first draft that passes
abbrev pub IsFirst : (Create → Bool) → List SentCreate → Option ℕ → Type 0
IsFirst test drafts None = taken_out test (map create_of drafts) ≡ None
IsFirst test drafts (Some i) =
    (i < length drafts)
    × ((d : SentCreate) → taken_out test (map create_of drafts)
    ≡ Some (create_of (slice_index_or drafts i d), map create_of (remove drafts i)))

-- ---- What a planner keeps in step with the progress of a set.

-- it was there at the beginning, or the set has given its number
abbrev pub is_found : Content → ℕ → ℕ → Bool
is_found base next n = is_some (mailbox_at base n) || is_new base.next_mailbox next n

-- The planner has the next number, and what the creates have come to. The names and roles
-- that it holds are those of the mailboxes that the set created, and all other mailboxes are those
-- of the content that it began with.
pub record Follows (p : Planner) (s : Creating) : Type 0 where
  pub table : IsTable mailbox_number s.content.mailboxes
  pub base : IsTable mailbox_number p.content.now.content.mailboxes
  pub next : p.next ≡ s.content.next_mailbox
  pub grown : p.content.now.content.next_mailbox ≤ p.next
  pub found : (n : ℕ) → is_some (mailbox_at s.content n) ≡ is_found p.content.now.content p.next n
  pub names : (g : Option ℕ) (t : List ℕ) → holds p.names.keys.keys g t
      ≡ list_any
      (is_created p.content.now.content.next_mailbox p.next
      (is_sibling g t)) s.content.mailboxes
  pub roles : (t : List ℕ) → holds p.roles.keys.keys None t
      ≡ list_any
      (is_created p.content.now.content.next_mailbox p.next (has_role t)) s.content.mailboxes
  pub others : (test : Mailbox → Bool)
      → list_any (is_other p.content.now.content.next_mailbox p.next test) s.content.mailboxes
      ≡ list_any
      (is_other p.content.now.content.next_mailbox p.next test) p.content.now.content.mailboxes
  pub creates : KeepUp p.creates s
