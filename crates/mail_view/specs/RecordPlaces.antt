-- Where the object of a record is not of the form that a response gives it: of a mailbox (RFC 8621,
-- 2), of a thread (3), and of an email with the properties that a client keeps (4.1). A place is
-- the JSON Pointer (RFC 6901) of a value; of a member that is missing it is the pointer that the
-- member would have. Other members are ignored. Each definition takes the pointer of what it looks
-- into.
use Rattle.std.specs.Prelude.{ℕ, List, [], ◌∷◌, ◌++◌, Bool, true, ◌&&◌, is_some, option_and_then, if◌then◌else◌, codes}
use Rattle.std.specs.List.{flat_map}
use Rattle.jm_base.specs.UtcSeconds.{utc_seconds}
use Rattle.jm_base.specs.declared.identifiers.Kind.{Kind}
use Rattle.jm_base.specs.declared.identifiers.Kind.TheVariants.{Mailbox as OfMailbox, Email as OfEmail, Thread as OfThread}
use Rattle.jm_json.specs.Find.{as_object, as_text}
use Rattle.jm_json.specs.Tree.{Tree}
use Rattle.method_args.specs.Arguments.{as_count, as_flag, is_null, passes}
use Rattle.method_args.specs.Ids.{id_number}
use Rattle.method_args.specs.Places.{at_name, id_places, ids_places, list_places, member_places, place_unless, places_in}

-- the places in a value, by its pointer
abbrev pub Form : Type 0
Form = List ℕ → Tree → List (List ℕ)

-- ---- values

abbrev pub string_places : Form
string_places pointer t = place_unless (is_some (as_text t)) pointer

abbrev pub flag_places : Form
flag_places pointer t = place_unless (is_some (as_flag t)) pointer

-- an unsigned integer (RFC 8620, 1.3)
abbrev pub count_places : Form
count_places pointer t = place_unless (is_some (as_count t)) pointer

-- a UTCDate (RFC 8620, 1.4)
abbrev pub date_places : Form
date_places pointer t = place_unless (is_some (option_and_then utc_seconds (as_text t))) pointer

-- null, or a value of the form
abbrev pub nullable_places : Form → Form
nullable_places f pointer t = if is_null t then [] else f pointer t

-- the names and forms of the members that an object has
abbrev pub members_places
    : List (List ℕ × Form) → List ℕ → List (List ℕ × Tree) → List (List ℕ)
members_places forms pointer ms = flat_map (λ f. member_places f.1 pointer f.0 ms) forms

abbrev pub object_places : List (List ℕ × Form) → Form
object_places forms pointer t = places_in (members_places forms pointer) pointer (as_object t)

-- an object with names that pass, and true at each
abbrev pub entry_places : (List ℕ → Bool) → List ℕ → List (List ℕ × Tree) → List (List ℕ)
entry_places test pointer [] = []
entry_places test pointer (m ∷ ms) =
    place_unless (test m.0 && passes (λ b. b) (as_flag m.1)) (at_name pointer m.0)
    ++ entry_places test pointer ms

abbrev pub set_places : (List ℕ → Bool) → Form
set_places test pointer t = places_in (entry_places test pointer) pointer (as_object t)

-- ---- records

abbrev pub rights_forms : List (List ℕ × Form)
rights_forms =
    (codes "mayAddItems", flag_places)
    ∷ (codes "mayCreateChild", flag_places)
    ∷ (codes "mayDelete", flag_places)
    ∷ (codes "mayReadItems", flag_places)
    ∷ (codes "mayRemoveItems", flag_places)
    ∷ (codes "mayRename", flag_places)
    ∷ (codes "maySetKeywords", flag_places)
    ∷ (codes "maySetSeen", flag_places)
    ∷ (codes "maySubmit", flag_places)
    ∷ []

abbrev pub mailbox_forms : List (List ℕ × Form)
mailbox_forms =
    (codes "id", id_places OfMailbox)
    ∷ (codes "isSubscribed", flag_places)
    ∷ (codes "myRights", object_places rights_forms)
    ∷ (codes "name", string_places)
    ∷ (codes "parentId", nullable_places (id_places OfMailbox))
    ∷ (codes "role", nullable_places string_places)
    ∷ (codes "sortOrder", count_places)
    ∷ (codes "totalEmails", count_places)
    ∷ (codes "totalThreads", count_places)
    ∷ (codes "unreadEmails", count_places)
    ∷ (codes "unreadThreads", count_places)
    ∷ []

-- an address of a header field (RFC 8621, 4.1.2.3)
abbrev pub address_forms : List (List ℕ × Form)
address_forms =
    (codes "email", string_places) ∷ (codes "name", nullable_places string_places) ∷ []

abbrev pub is_mailbox_id : List ℕ → Bool
is_mailbox_id id = is_some (id_number OfMailbox id)

abbrev pub any_name : List ℕ → Bool
any_name name = true

abbrev pub email_forms : List (List ℕ × Form)
email_forms =
    (codes "blobId", string_places)
    ∷ (codes "from", nullable_places (list_places (object_places address_forms)))
    ∷ (codes "hasAttachment", flag_places)
    ∷ (codes "id", id_places OfEmail)
    ∷ (codes "keywords", set_places any_name)
    ∷ (codes "mailboxIds", set_places is_mailbox_id)
    ∷ (codes "preview", string_places)
    ∷ (codes "receivedAt", date_places)
    ∷ (codes "size", count_places)
    ∷ (codes "subject", nullable_places string_places)
    ∷ (codes "threadId", id_places OfThread)
    ∷ []

abbrev pub thread_forms : List (List ℕ × Form)
thread_forms = (codes "emailIds", ids_places OfEmail) ∷ (codes "id", id_places OfThread) ∷ []

abbrev pub record_forms : Kind → List (List ℕ × Form)
record_forms OfMailbox = mailbox_forms
record_forms OfEmail = email_forms
record_forms OfThread = thread_forms

-- the places in a record of the kind at which it is not of its form; none if it is
abbrev pub record_places : Kind → Form
record_places kind = object_places (record_forms kind)
