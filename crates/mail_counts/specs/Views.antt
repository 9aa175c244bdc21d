-- The JSON view of a mailbox: the members of its object, in byte order of their names (RFC 8621,
-- 2).
use Rattle.std.specs.Prelude.{ℕ, ◌^◌, pos, min, List, [], ◌∷◌, Bool, true, false, ◌&&◌, not, nat_le, nat_lt, Option, Some, None, codes, bytes_eq}
use Rattle.std.specs.List.{find as first_that}
use Rattle.jm_base.specs.Ids.{id_text}
use Rattle.jm_base.specs.declared.identifiers.Kind.TheVariants.{Mailbox as OfMailbox}
use Rattle.jm_json.specs.Tree.{Tree, null, boolean, number, text, object, fields_of}
use Rattle.jm_base.specs.declared.identifiers.TheConstants.{NUMBER_LIMIT}
use Rattle.mail_records.specs.declared.records.Mailbox.{Mailbox}
use Rattle.jm_base.specs.declared.limits.TheConstants.{MAX_JSON_INTEGER}

-- the text of a mailbox's identifier
abbrev pub mailbox_id : ℕ → List ℕ
mailbox_id n = id_text (record { kind = OfMailbox; number = n })

-- the text is the identifier of the mailbox: identifiers are of numbers from 1 and below the limit
abbrev pub is_id_of : List ℕ → Mailbox → Bool
is_id_of id m =
    nat_le 1 m.number && nat_lt m.number NUMBER_LIMIT && bytes_eq (mailbox_id m.number) id

-- the mailbox that an identifier names, if it names one
abbrev pub mailbox_named : List Mailbox → List ℕ → Option Mailbox
mailbox_named mailboxes id = first_that (is_id_of id) mailboxes

-- an unsigned number as JSON has it, which has no greater one (RFC 8620, 1.3)
abbrev pub count_tree : ℕ → Tree
count_tree n = number (pos (min n MAX_JSON_INTEGER))

-- the identifier of the parent, or null
abbrev pub parent_tree : Option ℕ → Tree
parent_tree None = null
parent_tree (Some n) = text (mailbox_id n)

-- the role, or null
abbrev pub role_tree : Option (List ℕ) → Tree
role_tree None = null
role_tree (Some r) = text r

-- The rights of a user on each mailbox of an account, which is read-only for the user or not. Items
-- may always be read, nothing may be submitted, and the rest is as the account is (RFC 8621, 2;
-- which rights there are is our own).
abbrev pub rights_members : Bool → List (List ℕ × Tree)
rights_members read_only =
    (codes "mayAddItems", boolean (not read_only))
    ∷ (codes "mayCreateChild", boolean (not read_only))
    ∷ (codes "mayDelete", boolean (not read_only))
    ∷ (codes "mayReadItems", boolean true)
    ∷ (codes "mayRemoveItems", boolean (not read_only))
    ∷ (codes "mayRename", boolean (not read_only))
    ∷ (codes "maySetKeywords", boolean (not read_only))
    ∷ (codes "maySetSeen", boolean (not read_only))
    ∷ (codes "maySubmit", boolean false)
    ∷ []

abbrev pub rights_tree : Bool → Tree
rights_tree read_only = object (fields_of (rights_members read_only))

-- the members of a mailbox's object
abbrev pub mailbox_members : Bool → Mailbox → List (List ℕ × Tree)
mailbox_members read_only m =
    (codes "id", text (mailbox_id m.number))
    ∷ (codes "isSubscribed", boolean m.subscribed)
    ∷ (codes "myRights", rights_tree read_only)
    ∷ (codes "name", text m.name)
    ∷ (codes "parentId", parent_tree m.parent)
    ∷ (codes "role", role_tree m.role)
    ∷ (codes "sortOrder", count_tree m.sort_order)
    ∷ (codes "totalEmails", count_tree m.total_emails)
    ∷ (codes "totalThreads", count_tree m.total_threads)
    ∷ (codes "unreadEmails", count_tree m.unread_emails)
    ∷ (codes "unreadThreads", count_tree m.unread_threads)
    ∷ []
