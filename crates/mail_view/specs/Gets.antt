-- What a get of mailboxes, emails or threads is answered (RFC 8620, 5.1; RFC 8621, 2.1, 3.1 and
-- 4.2).
use Rattle.std.specs.Prelude.{ℕ, List, [], ◌∷◌, Bool, nat_lt, if◌then◌else◌, Option, Some, None, false, unwrap_or, length, map, codes}
use Rattle.jm_base.specs.Ids.{state_text}
use Rattle.jm_base.specs.declared.identifiers.Kind.{Kind}
use Rattle.jm_base.specs.declared.identifiers.Kind.TheVariants.{Mailbox as OfMailbox, Email as OfEmail, Thread as OfThread}
use Rattle.jm_json.specs.Tree.{Tree, text, list, object, trees_of, fields_of}
use Rattle.jm_json.specs.Find.{as_object}
use Rattle.mail_records.specs.Contents.{Content}
use Rattle.mail_records.specs.Histories.{History, content_of, blobs_of}
use Rattle.mail_records.specs.States.{state_of}
use Rattle.mail_counts.specs.Views.{mailbox_named}
use Rattle.method_args.specs.Arguments.{account_in}
use Rattle.method_args.specs.declared.TheConstants.{MAX_OBJECTS_PER_CALL}
use Rattle.get_args.specs.Selection.{ids_in, names_in, invalid_selection, invalid_properties}
use Rattle.get_args.specs.Wanted.{Reading, invalid as invalid_wanted, asked, wanted_by}
use Rattle.mail_view.specs.Records.{asked_records, unknown_ids, asked_count}
use Rattle.mail_view.specs.Mailboxes.{mailbox_properties, mailbox_view}
use Rattle.mail_view.specs.Threads.{thread_named, thread_properties, thread_view}
use Rattle.mail_view.specs.Emails.{email_named, email_view}

-- A get fails because the argument of this name is invalid or because it asks for too many objects,
-- or it is answered by a response with these arguments. The name is empty if the arguments of the
-- get are no object.
pub data Got : Type 0 where
  invalid : List ℕ → Got
  too_large : Got
  got : Tree → Got

-- the arguments of a response: of this account, with these objects, unknown ids and state
abbrev pub reply_tree : List ℕ → List Tree → List Tree → ℕ → Tree
reply_tree account objects unknown state =
    object
    (fields_of
    ((codes "accountId", text account)
    ∷ (codes "list", list (trees_of objects))
    ∷ (codes "notFound", list (trees_of unknown))
    ∷ (codes "state", text (state_text state))
    ∷ []))

-- the response to a get of records: the views of those that are asked for, and the unknown ids
abbrev pub records_reply :
    {A : Type 0} → (List ℕ → Option A) → (A → Tree) → List A → ℕ → List (List ℕ × Tree) → Tree
records_reply named view records state args =
    reply_tree (unwrap_or (account_in args) [])
    (map view (asked_records named records (ids_in args)))
    (map text (unknown_ids named (ids_in args)))
    state

-- a get asks for at most as many objects as a call may name (RFC 8620, 2: maxObjectsInGet)
abbrev pub get_records :
    {A : Type 0} → (List ℕ → Option A) → (A → Tree) → List A → ℕ → List (List ℕ × Tree) → Got
get_records named view records state args =
    if nat_lt MAX_OBJECTS_PER_CALL (asked_count (length records) (ids_in args))
    then too_large
    else got (records_reply named view records state args)

-- this answer, unless the argument of this name is invalid
abbrev pub got_unless : Option (List ℕ) → Got → Got
got_unless (Some name) answer = invalid name
got_unless None answer = answer

abbrev pub get_if_object : (List (List ℕ × Tree) → Got) → Option (List (List ℕ × Tree)) → Got
get_if_object answer None = invalid []
get_if_object answer (Some args) = answer args

-- ---- mailboxes

abbrev pub mailboxes_got : Content → ℕ → Bool → List (List ℕ × Tree) → Got
mailboxes_got c state read_only args =
    got_unless (invalid_selection args)
    (got_unless (invalid_properties mailbox_properties args)
    (get_records (mailbox_named c.mailboxes) (mailbox_view read_only (names_in args)) c.mailboxes
    state args))

-- The answer to a get of mailboxes with these arguments, of an account with this content and this
-- state of its mailboxes, which is read-only for the user or not.
abbrev pub get_mailboxes : Content → ℕ → Tree → Bool → Got
get_mailboxes c state args read_only =
    get_if_object (mailboxes_got c state read_only) (as_object args)

-- the answer to a get of mailboxes, of an account with this history, at its end
abbrev pub get_in : History → Tree → Bool → Got
get_in h args read_only = get_mailboxes (content_of h) (state_of h OfMailbox) args read_only

-- ---- threads

abbrev pub threads_got : Content → ℕ → List (List ℕ × Tree) → Got
threads_got c state args =
    got_unless (invalid_selection args)
    (got_unless (invalid_properties thread_properties args)
    (get_records (thread_named c.threads) (thread_view (names_in args)) c.threads state args))

-- the answer to a get of threads
abbrev pub get_threads : Content → ℕ → Tree → Got
get_threads c state args = get_if_object (threads_got c state) (as_object args)

-- ---- emails

abbrev pub emails_by : Content → List (List ℕ) → ℕ → List (List ℕ × Tree) → Reading → Got
emails_by c blobs state args (invalid_wanted name) = invalid name
emails_by c blobs state args (asked wanted) =
    get_records (email_named c.emails) (email_view blobs wanted) c.emails state args

abbrev pub emails_got : Content → List (List ℕ) → ℕ → List (List ℕ × Tree) → Got
emails_got c blobs state args =
    got_unless (invalid_selection args) (emails_by c blobs state args (wanted_by (Some args) false))

-- the answer to a get of emails, of an account with these blobs
abbrev pub get_emails : Content → List (List ℕ) → ℕ → Tree → Got
get_emails c blobs state args = get_if_object (emails_got c blobs state) (as_object args)

-- ---- any kind

-- the answer to a get of records of a kind, of an account with this history, at its end
abbrev pub get_of_kind : Kind → History → Tree → Bool → Got
get_of_kind OfMailbox h args read_only = get_in h args read_only
get_of_kind OfEmail h args read_only =
    get_emails (content_of h) (blobs_of h) (state_of h OfEmail) args
get_of_kind OfThread h args read_only = get_threads (content_of h) (state_of h OfThread) args
