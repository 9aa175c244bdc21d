-- The request of each step of a round: one call with the identifier `0` (RFC 8620, 3.3).
use Rattle.std.specs.Prelude.{ℕ, List, [], ◌∷◌, map, take, length, Option, Some, None, codes, slice_get, unwrap_or}
use Rattle.serde_json.specs.Written.{compact_text}
use Rattle.jm_base.specs.Ids.{id_text, state_text}
use Rattle.jm_base.specs.declared.identifiers.Kind.{Kind}
use Rattle.jm_base.specs.declared.identifiers.Kind.TheVariants.{Mailbox as OfMailbox, Email as OfEmail, Thread as OfThread}
use Rattle.jm_json.specs.Call.{Call}
use Rattle.jm_json.specs.JsonValues.{data_of}
use Rattle.jm_json.specs.Requests.{request_tree}
use Rattle.jm_json.specs.Tree.{Tree, boolean, text, list, object, fields_of, trees_of}
use Rattle.mail_counts.specs.Views.{count_tree}
use Rattle.mail_view.specs.CachedViews.{client_get}
use Rattle.client_cache.specs.Caches.{Cached, ListView, all_list}
use Rattle.client_cache.specs.Rounds.{Round, Step, at_session, at_changes, at_changed, at_results, at_records, at_thread_state, at_email_state, at_threads, at_list_changes, at_list_results, done}
use Rattle.client_cache.specs.declared.limits.TheConstants.{MAX_CHANGES, MAX_IDS, MAX_RESULTS}

-- ---- names of methods

abbrev pub get_name : Kind → List ℕ
get_name OfMailbox = codes "Mailbox/get"
get_name OfEmail = codes "Email/get"
get_name OfThread = codes "Thread/get"

abbrev pub changes_name : Kind → List ℕ
changes_name OfMailbox = codes "Mailbox/changes"
changes_name OfEmail = codes "Email/changes"
changes_name OfThread = codes "Thread/changes"

-- mailboxes and emails have queries, threads have none
abbrev pub query_name : Kind → List ℕ
query_name OfMailbox = codes "Mailbox/query"
query_name OfEmail = codes "Email/query"
query_name OfThread = codes "Email/query"

-- ---- arguments

-- the account that is kept, the list with an index, and the records that a get asks for next
abbrev pub account_of : Cached → List ℕ
account_of c = unwrap_or c.account []

abbrev pub list_at : ℕ → Cached → ListView
list_at index c = unwrap_or (slice_get c.lists index) all_list

abbrev pub next_asked : Round → List ℕ
next_asked r = take MAX_IDS r.asked

abbrev pub id_of : Kind → ℕ → List ℕ
id_of kind n = id_text (record { kind = kind; number = n })

abbrev pub changes_arguments : List ℕ → ℕ → Tree
changes_arguments account since =
    object (fields_of (
    (codes "accountId", text account)
    ∷ (codes "maxChanges", count_tree MAX_CHANGES)
    ∷ (codes "sinceState", text (state_text since))
    ∷ []))

-- of all records, from a position on
abbrev pub results_arguments : List ℕ → ℕ → Tree
results_arguments account position =
    object (fields_of (
    (codes "accountId", text account)
    ∷ (codes "limit", count_tree MAX_RESULTS)
    ∷ (codes "position", count_tree position)
    ∷ []))

abbrev pub list_changes_arguments : List ℕ → ListView → ℕ → Tree
list_changes_arguments account l since =
    object (fields_of (
    (codes "accountId", text account)
    ∷ (codes "collapseThreads", boolean l.collapse)
    ∷ (codes "filter", l.filter)
    ∷ (codes "sinceQueryState", text (state_text since))
    ∷ (codes "sort", l.sort)
    ∷ []))

abbrev pub list_results_arguments : List ℕ → ListView → ℕ → Tree
list_results_arguments account l position =
    object (fields_of (
    (codes "accountId", text account)
    ∷ (codes "collapseThreads", boolean l.collapse)
    ∷ (codes "filter", l.filter)
    ∷ (codes "limit", count_tree MAX_RESULTS)
    ∷ (codes "position", count_tree position)
    ∷ (codes "sort", l.sort)
    ∷ []))

-- the members of a get of all properties
abbrev pub plain_members : Kind → List ℕ → List ℕ → List (List ℕ × Tree)
plain_members kind account numbers =
    (codes "accountId", text account)
    ∷ (codes "ids", list (trees_of (map text (map (id_of kind) numbers))))
    ∷ []

-- ---- calls

abbrev pub call_with : List ℕ → Tree → Call
call_with name args = record { name = name; args = args; id = codes "0" }

abbrev pub changes_call : Cached → Kind → ℕ → Call
changes_call c kind since = call_with (changes_name kind) (changes_arguments (account_of c) since)

abbrev pub get_call : Cached → Kind → List ℕ → Call
get_call c kind numbers =
    call_with (get_name kind) (client_get kind (account_of c) (map (id_of kind) numbers))

abbrev pub results_call : Cached → Round → Kind → Call
results_call c r kind =
    call_with (query_name kind) (results_arguments (account_of c) (length r.results))

abbrev pub list_changes_call : Cached → ℕ → ℕ → Call
list_changes_call c index since =
    call_with (codes "Email/queryChanges")
    (list_changes_arguments (account_of c) (list_at index c) since)

abbrev pub list_results_call : Cached → Round → ℕ → Call
list_results_call c r index =
    call_with (codes "Email/query")
    (list_results_arguments (account_of c) (list_at index c) (length r.results))

-- ---- the request

abbrev pub capabilities : List (List ℕ)
capabilities = codes "urn:ietf:params:jmap:core" ∷ codes "urn:ietf:params:jmap:mail" ∷ []

abbrev pub call_text : Call → List ℕ
call_text call = compact_text (data_of (request_tree capabilities (call ∷ [])))

-- The bytes of the request of a step. That of the Session has none; when the round is done there is
-- no request.
abbrev pub request_at : Cached → Round → Step → Option (List ℕ)
request_at c r at_session = Some []
request_at c r (at_changes kind since) = Some (call_text (changes_call c kind since))
request_at c r (at_changed kind state) = Some (call_text (get_call c kind (next_asked r)))
request_at c r (at_results kind state) = Some (call_text (results_call c r kind))
request_at c r (at_records kind state) = Some (call_text (get_call c kind (next_asked r)))
request_at c r at_thread_state = Some (call_text (get_call c OfThread []))
request_at c r (at_email_state state) = Some (call_text (get_call c OfEmail []))
request_at c r (at_threads state) = Some (call_text (get_call c OfThread (next_asked r)))
request_at c r (at_list_changes index since) = Some (call_text (list_changes_call c index since))
request_at c r (at_list_results index state) = Some (call_text (list_results_call c r index))
request_at c r done = None

abbrev pub next_request : Cached → Round → Option (List ℕ)
next_request c r = request_at c r r.step
