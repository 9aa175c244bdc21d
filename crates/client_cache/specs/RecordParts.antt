-- Parts of the forms of records, in which these are looked at.
use Rattle.std.specs.Prelude.{ℕ, List, [], ◌∷◌, Bool, true, false, ◌&&◌, is_some, option_and_then, codes}
use Rattle.jm_base.specs.UtcSeconds.{utc_seconds}
use Rattle.jm_base.specs.declared.identifiers.Kind.TheVariants.{Mailbox as OfMailbox, Email as OfEmail, Thread as OfThread}
use Rattle.jm_json.specs.Find.{as_text}
use Rattle.jm_json.specs.Tree.{Tree}
use Rattle.method_args.specs.Arguments.{as_flag, passes}
use Rattle.method_args.specs.Places.{id_places, list_places}
use Rattle.mail_view.specs.RecordPlaces.{Form, address_forms, any_name, count_places, date_places, flag_places, is_mailbox_id, nullable_places, object_places, rights_forms, set_places, string_places}

abbrev pub date_test : Tree → Bool
date_test t = is_some (option_and_then utc_seconds (as_text t))

-- a name of a set: the identifier of a mailbox, or any
abbrev pub name_test : Bool → List ℕ → Bool
name_test true = is_mailbox_id
name_test false = any_name

abbrev pub set_entry_test : Bool → List ℕ × Tree → Bool
set_entry_test of_mailboxes m = name_test of_mailboxes m.0 && passes (λ b. b) (as_flag m.1)

abbrev pub first_rights_forms : List (List ℕ × Form)
first_rights_forms =
    (codes "mayAddItems", flag_places)
    ∷ (codes "mayCreateChild", flag_places)
    ∷ (codes "mayDelete", flag_places)
    ∷ (codes "mayReadItems", flag_places)
    ∷ (codes "mayRemoveItems", flag_places)
    ∷ []

abbrev pub last_rights_forms : List (List ℕ × Form)
last_rights_forms =
    (codes "mayRename", flag_places)
    ∷ (codes "maySetKeywords", flag_places)
    ∷ (codes "maySetSeen", flag_places)
    ∷ (codes "maySubmit", flag_places)
    ∷ []

abbrev pub first_mailbox_forms : List (List ℕ × Form)
first_mailbox_forms =
    (codes "id", id_places OfMailbox)
    ∷ (codes "isSubscribed", flag_places)
    ∷ (codes "myRights", object_places rights_forms)
    ∷ (codes "name", string_places)
    ∷ (codes "parentId", nullable_places (id_places OfMailbox))
    ∷ (codes "role", nullable_places string_places)
    ∷ []

abbrev pub last_mailbox_forms : List (List ℕ × Form)
last_mailbox_forms =
    (codes "sortOrder", count_places)
    ∷ (codes "totalEmails", count_places)
    ∷ (codes "totalThreads", count_places)
    ∷ (codes "unreadEmails", count_places)
    ∷ (codes "unreadThreads", count_places)
    ∷ []

abbrev pub first_email_forms : List (List ℕ × Form)
first_email_forms =
    (codes "blobId", string_places)
    ∷ (codes "from", nullable_places (list_places (object_places address_forms)))
    ∷ (codes "hasAttachment", flag_places)
    ∷ (codes "id", id_places OfEmail)
    ∷ (codes "keywords", set_places any_name)
    ∷ []

abbrev pub last_email_forms : List (List ℕ × Form)
last_email_forms =
    (codes "mailboxIds", set_places is_mailbox_id)
    ∷ (codes "preview", string_places)
    ∷ (codes "receivedAt", date_places)
    ∷ (codes "size", count_places)
    ∷ (codes "subject", nullable_places string_places)
    ∷ (codes "threadId", id_places OfThread)
    ∷ []
