-- Where the reply to a request of a round is not of its form: a Response with one response, which
-- is to the call that was made (RFC 8620, 3.4 and 3.6.2). A place is a JSON Pointer (RFC 6901).
-- Members of other names are ignored.
use Rattle.std.specs.Prelude.{ℕ, List, [], ◌∷◌, ◌++◌, length, Bool, bytes_eq, Option, Some, None, option_and_then, Result, Ok, Err, if◌then◌else◌, codes}
use Rattle.jm_base.specs.Splices.{splice}
use Rattle.jm_base.specs.declared.identifiers.AddedItem.{AddedItem}
use Rattle.jm_base.specs.declared.identifiers.Kind.{Kind}
use Rattle.jm_base.specs.declared.identifiers.Kind.TheVariants.{Email as OfEmail, Thread as OfThread}
use Rattle.jm_json.specs.Find.{as_list, as_object, as_text, find}
use Rattle.jm_json.specs.Reading.{Reading, not_json, not_whole, whole, reading_of}
use Rattle.jm_json.specs.Tree.{Tree}
use Rattle.method_args.specs.Arguments.{passes, text_in}
use Rattle.method_args.specs.Places.{at_index, at_name, list_places, member_places, place_unless, places_in}
use Rattle.mail_view.specs.RecordPlaces.{Form, record_places, string_places}
use Rattle.reply_readers.specs.Deltas.{added_of, delta_places}
use Rattle.reply_readers.specs.Members.{ids_of}
use Rattle.reply_readers.specs.Objects.{objects_reply_places}
use Rattle.reply_readers.specs.Pages.{page_places}
use Rattle.reply_readers.specs.Results.{results_places}
use Rattle.client_cache.specs.Caches.{Cached}
use Rattle.client_cache.specs.Requests.{account_of, changes_name, get_name, list_at, next_asked, query_name}
use Rattle.client_cache.specs.Rounds.{Round, Step, at_session, at_changes, at_changed, at_results, at_records, at_thread_state, at_email_state, at_threads, at_list_changes, at_list_results, done}
use Rattle.client_cache.specs.Sessions.{session_places}
use Rattle.client_cache.specs.declared.limits.TheConstants.{MAX_RESULTS}

-- ---- arguments

-- the objects of exactly the records that were asked for, each of the form of its kind
abbrev pub record_list_places : Kind → List ℕ → List (List ℕ × Tree) → List (List ℕ)
record_list_places kind p ms = member_places (list_places (record_places kind)) p (codes "list") ms

abbrev pub get_list_places : Kind → Form
get_list_places kind p t = places_in (record_list_places kind p) p (as_object t)

abbrev pub get_places : Kind → List ℕ → List ℕ → Form
get_places kind account asked p t =
    objects_reply_places kind account asked p t ++ get_list_places kind p t

abbrev pub index_places : List ℕ → Result (List ℕ) ℕ → List (List ℕ)
index_places p (Ok ids) = []
index_places p (Err i) = at_name (at_index (at_name p (codes "added")) i) (codes "index") ∷ []

abbrev pub spliced_places
    : List ℕ → List ℕ → Option (List ℕ) → Option (List AddedItem) → List (List ℕ)
spliced_places ids p None added = []
spliced_places ids p (Some removed) None = []
spliced_places ids p (Some removed) (Some added) = index_places p (splice ids removed added)

-- the index of the first item that is past the list at its turn
abbrev pub splice_places : List ℕ → List ℕ → List (List ℕ × Tree) → List (List ℕ)
splice_places ids p ms =
    spliced_places ids p (ids_of OfEmail (codes "removed") ms) (added_of OfEmail (codes "added") ms)

-- changes of a query's results that can be spliced into these
abbrev pub list_changes_places : List ℕ → List ℕ → ℕ → Form
list_changes_places account ids since p t =
    delta_places OfEmail account since p t ++ places_in (splice_places ids p) p (as_object t)

-- the places in the arguments of the response to the call of a step
abbrev pub arguments_places : Cached → Round → Step → Form
arguments_places c r at_session p t = []
arguments_places c r (at_changes kind since) p t = page_places kind (account_of c) since p t
arguments_places c r (at_changed kind state) p t = get_places kind (account_of c) (next_asked r) p t
arguments_places c r (at_results kind state) p t =
    results_places kind (account_of c) (length r.results) MAX_RESULTS p t
arguments_places c r (at_records kind state) p t = get_places kind (account_of c) (next_asked r) p t
arguments_places c r at_thread_state p t = get_places OfThread (account_of c) [] p t
arguments_places c r (at_email_state state) p t = get_places OfEmail (account_of c) [] p t
arguments_places c r (at_threads state) p t =
    get_places OfThread (account_of c) (next_asked r) p t
arguments_places c r (at_list_changes index since) p t =
    list_changes_places (account_of c) (list_at index c).ids since p t
arguments_places c r (at_list_results index state) p t =
    results_places OfEmail (account_of c) (length r.results) MAX_RESULTS p t
arguments_places c r done p t = []

-- the name of the method that a step calls
abbrev pub method_at : Step → List ℕ
method_at at_session = []
method_at (at_changes kind since) = changes_name kind
method_at (at_changed kind state) = get_name kind
method_at (at_results kind state) = query_name kind
method_at (at_records kind state) = get_name kind
method_at at_thread_state = get_name OfThread
method_at (at_email_state state) = get_name OfEmail
method_at (at_threads state) = get_name OfThread
method_at (at_list_changes index since) = codes "Email/queryChanges"
method_at (at_list_results index state) = codes "Email/query"
method_at done = []

-- ---- the response

abbrev pub arguments_pointer : List ℕ
arguments_pointer = codes "/methodResponses/0/1"

-- the error of a state that is too old (RFC 8620, 5.2 and 5.6)
abbrev pub is_too_old : List (List ℕ × Tree) → Bool
is_too_old ms =
    passes (λ s. bytes_eq s (codes "cannotCalculateChanges")) (text_in (codes "type") ms)

abbrev pub error_member_places : List ℕ → List (List ℕ × Tree) → List (List ℕ)
error_member_places p ms = place_unless (is_too_old ms) (at_name p (codes "type"))

abbrev pub error_places : Form
error_places p t = places_in (error_member_places p) p (as_object t)

-- the response of the method that was called, or of another one
abbrev pub called_places : Cached → Round → Bool → Form
called_places c r is_called p t =
    if is_called then arguments_places c r r.step p t else codes "/methodResponses/0/0" ∷ []

-- an error, or the response of a method
abbrev pub answered_places : Cached → Round → Bool → Bool → Form
answered_places c r is_error is_called p t =
    if is_error then error_places p t else called_places c r is_called p t

-- the response with a name
abbrev pub named_places : Cached → Round → Tree → List ℕ → List (List ℕ)
named_places c r args name =
    answered_places c r (bytes_eq name (codes "error")) (bytes_eq name (method_at r.step))
    arguments_pointer args

abbrev pub is_call_id : Tree → Bool
is_call_id t = passes (λ s. bytes_eq s (codes "0")) (as_text t)

abbrev pub three_places : Cached → Round → Tree → Tree → Tree → List (List ℕ)
three_places c r name args id =
    places_in (named_places c r args) (codes "/methodResponses/0/0") (as_text name)
    ++ place_unless (is_call_id id) (codes "/methodResponses/0/2")

-- a name, arguments and the identifier of the call
abbrev pub parts_places : Cached → Round → List Tree → List (List ℕ)
parts_places c r [] = codes "/methodResponses/0" ∷ []
parts_places c r (name ∷ []) = codes "/methodResponses/0" ∷ []
parts_places c r (name ∷ args ∷ []) = codes "/methodResponses/0" ∷ []
parts_places c r (name ∷ args ∷ id ∷ []) = three_places c r name args id
parts_places c r (name ∷ args ∷ id ∷ t ∷ ts) = codes "/methodResponses/0" ∷ []

abbrev pub response_places : Cached → Round → Tree → List (List ℕ)
response_places c r t = places_in (parts_places c r) (codes "/methodResponses/0") (as_list t)

abbrev pub only_places : Cached → Round → List Tree → List (List ℕ)
only_places c r [] = codes "/methodResponses" ∷ []
only_places c r (t ∷ []) = response_places c r t
only_places c r (t ∷ u ∷ ts) = codes "/methodResponses" ∷ []

abbrev pub answer_member_places : Cached → Round → List (List ℕ × Tree) → List (List ℕ)
answer_member_places c r ms =
    places_in (only_places c r) (codes "/methodResponses")
    (option_and_then as_list (find (codes "methodResponses") ms))
    ++ member_places string_places [] (codes "sessionState") ms

abbrev pub answer_places : Cached → Round → Tree → List (List ℕ)
answer_places c r t = places_in (answer_member_places c r) [] (as_object t)

-- ---- the reply

-- those of a tree; when the round is done nothing was asked
abbrev pub tree_places : Cached → Round → Step → Tree → List (List ℕ)
tree_places c r at_session t = session_places c.account t
tree_places c r (at_changes kind since) t = answer_places c r t
tree_places c r (at_changed kind state) t = answer_places c r t
tree_places c r (at_results kind state) t = answer_places c r t
tree_places c r (at_records kind state) t = answer_places c r t
tree_places c r at_thread_state t = answer_places c r t
tree_places c r (at_email_state state) t = answer_places c r t
tree_places c r (at_threads state) t = answer_places c r t
tree_places c r (at_list_changes index since) t = answer_places c r t
tree_places c r (at_list_results index state) t = answer_places c r t
tree_places c r done t = [] ∷ []

-- Those of the bytes. What is no JSON has the place of the whole, which is empty, and a number that
-- is no integer (RFC 8620, 1.3) its own.
abbrev pub places_of_reading : Cached → Round → Reading → List (List ℕ)
places_of_reading c r not_json = [] ∷ []
places_of_reading c r (not_whole place) = place ∷ []
places_of_reading c r (whole t) = tree_places c r r.step t

-- the places at which a reply to the next request of the round is not of its form
abbrev pub reply_places : Cached → Round → List ℕ → List (List ℕ)
reply_places c r bytes = places_of_reading c r (reading_of bytes)
