-- Laws of views.
use Rattle.std.specs.Prelude.{◌≡◌, ℕ, ◌≤◌, List, [], ◌++◌, length, Bool, None}
use Rattle.std.specs.List.{AllByRecursion}
use Rattle.jm_base.specs.declared.identifiers.Kind.{Kind}
use Rattle.jm_base.specs.declared.identifiers.TheConstants.{NUMBER_LIMIT}
use Rattle.jm_json.specs.Find.{find}
use Rattle.jm_json.specs.Tree.{Tree, fields_of, object}
use Rattle.mail_counts.specs.Tidy.{IsTidy}
use Rattle.mail_counts.specs.Views.{mailbox_members}
use Rattle.mail_records.specs.Contents.{AreNumbered, Content, NextAtMost}
use Rattle.mail_records.specs.Histories.{FloorsAtMost, History, blobs_of, content_of}
use Rattle.mail_records.specs.States.{state_at, state_of}
use Rattle.mail_records.specs.declared.records.Email.{Email}
use Rattle.mail_records.specs.declared.records.Mailbox.{Mailbox}
use Rattle.mail_records.specs.declared.records.Thread.{Thread}
use Rattle.method_args.specs.declared.TheConstants.{MAX_OBJECTS_PER_CALL}
use Rattle.get_args.specs.Wanted.{cached_wanted}
use Rattle.get_args.specs.declared.wanted.Wanted.{Wanted}
use Rattle.mail_view.specs.CachedViews.{client_get, email_members, named_reply, view_named, views_at, views_in}
use Rattle.mail_view.specs.Emails.{HasBlob, email_view}
use Rattle.mail_view.specs.Gets.{get_emails, get_of_kind, got}
use Rattle.mail_view.specs.Mailboxes.{mailbox_view}
use Rattle.mail_view.specs.RecordPlaces.{record_places}
use Rattle.mail_view.specs.Threads.{thread_members, thread_view}

-- ---- as blobs are added

abbrev pub ViewStays : Type 0
ViewStays =
    (blobs added : List (List ℕ)) (wanted : Wanted) (e : Email) → HasBlob blobs e
    → email_view (blobs ++ added) wanted e ≡ email_view blobs wanted e

abbrev pub ViewsStay : Type 0
ViewsStay =
    (kind : Kind) (c : Content) (blobs added : List (List ℕ)) (read_only : Bool)
    → AllByRecursion (HasBlob blobs) c.emails
    → views_in kind c (blobs ++ added) read_only ≡ views_in kind c blobs read_only

abbrev pub GetsStay : Type 0
GetsStay =
    (c : Content) (blobs added : List (List ℕ)) (state : ℕ) (args : Tree)
    → AllByRecursion (HasBlob blobs) c.emails
    → get_emails c (blobs ++ added) state args ≡ get_emails c blobs state args

-- ---- at states and by ids

-- The objects at a position are those at the state that the kind has there.
abbrev pub StatesDecide : Type 0
StatesDecide =
    (kind : Kind) (h : History) (read_only : Bool) (k : ℕ) → FloorsAtMost h.floors h.floor
    → h.floor ≤ k → views_at kind h read_only k ≡ views_at kind h read_only (state_at h kind k)

-- The object under an id is that of the record which the id names.
abbrev pub IdsName : Type 0
IdsName =
    (kind : Kind) (c : Content) (blobs : List (List ℕ)) (read_only : Bool) (id : List ℕ)
    → AreNumbered c → NextAtMost NUMBER_LIMIT c
    → find id (views_in kind c blobs read_only) ≡ view_named kind c blobs read_only id

-- A client's get of ids is answered with the objects that they name, and the ids that name none.
abbrev pub GetsShowViews : Type 0
GetsShowViews =
    (kind : Kind) (h : History) (account : List ℕ) (ids : List (List ℕ)) (read_only : Bool)
    → length ids ≤ MAX_OBJECTS_PER_CALL
    → get_of_kind kind h (client_get kind account ids) read_only
    ≡ got (named_reply (view_named kind (content_of h) (blobs_of h) read_only) account
    (state_of h kind) ids)

-- ---- the members of objects

-- An email's object has these members.
abbrev pub EmailsHaveTheirMembers : Type 0
EmailsHaveTheirMembers =
    (blobs : List (List ℕ)) (e : Email)
    → email_view blobs cached_wanted e ≡ object (fields_of (email_members blobs e))

-- So have the objects of a mailbox and of a thread, which have all properties.
abbrev pub MailboxesHaveTheirMembers : Type 0
MailboxesHaveTheirMembers =
    (read_only : Bool) (m : Mailbox)
    → mailbox_view read_only None m ≡ object (fields_of (mailbox_members read_only m))

abbrev pub ThreadsHaveTheirMembers : Type 0
ThreadsHaveTheirMembers =
    (t : Thread) → thread_view None t ≡ object (fields_of (thread_members t))

-- ---- the form of objects

-- The object of each record of a tidy content is of its form, wherever it is.
abbrev pub ViewsHaveTheirForm : Type 0
ViewsHaveTheirForm =
    (kind : Kind) (c : Content) (blobs : List (List ℕ)) (read_only : Bool) (pointer : List ℕ)
    → IsTidy c → NextAtMost NUMBER_LIMIT c
    → AllByRecursion (λ p. record_places kind pointer p.1 ≡ []) (views_in kind c blobs read_only)
