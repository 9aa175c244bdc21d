-- The JSON view of a mailbox (RFC 8621, 2).
use Rattle.std.specs.Prelude.{ℕ, List, [], ◌∷◌, Bool, Option, filter, codes}
use Rattle.jm_json.specs.Tree.{Tree, object, fields_of}
use Rattle.mail_records.specs.declared.records.Mailbox.{Mailbox}
use Rattle.mail_counts.specs.Views.{mailbox_members}
use Rattle.get_args.specs.Selection.{is_shown}

-- the properties of a mailbox, in byte order
abbrev pub mailbox_properties : List (List ℕ)
mailbox_properties =
    codes "id"
    ∷ codes "isSubscribed"
    ∷ codes "myRights"
    ∷ codes "name"
    ∷ codes "parentId"
    ∷ codes "role"
    ∷ codes "sortOrder"
    ∷ codes "totalEmails"
    ∷ codes "totalThreads"
    ∷ codes "unreadEmails"
    ∷ codes "unreadThreads"
    ∷ []

-- The view of a mailbox with the properties of these names, all if there are none, for a user to
-- whom the account is read-only or not.
abbrev pub mailbox_view : Bool → Option (List (List ℕ)) → Mailbox → Tree
mailbox_view read_only names m =
    object (fields_of (filter (λ p. is_shown names p.0) (mailbox_members read_only m)))
