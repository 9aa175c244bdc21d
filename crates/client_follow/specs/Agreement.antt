-- What a client keeps agrees with a history: each kind and each list whose state is known, and
-- which the history reaches, is what the history has at that state. Laws of how a round begins over
-- such a cache, and of the answers that keep it such.
use Rattle.std.specs.Prelude.{◌≡◌, ℕ, ◌≤◌, ◌<◌, List, Bool, true, length, map, Option, Some, None, slice_get}
use Rattle.std.specs.List.{AllByRecursion}
use Rattle.jm_base.specs.declared.identifiers.Kind.{Kind}
use Rattle.jm_base.specs.declared.identifiers.Kind.TheVariants.{Email as OfEmail, Thread as OfThread}
use Rattle.jm_base.specs.declared.identifiers.TheConstants.{NUMBER_LIMIT}
use Rattle.jm_base.specs.declared.limits.TheConstants.{MAX_JSON_INTEGER}
use Rattle.jm_json.specs.Tree.{Tree}
use Rattle.mail_records.specs.Histories.{Entry, History, IsFounded, IsSound, blobs_of, content_at, content_of, end_of, grown_by}
use Rattle.mail_records.specs.States.{Reaches, state_of}
use Rattle.mail_view.specs.CachedViews.{client_get}
use Rattle.mail_view.specs.Emails.{HasBlob}
use Rattle.mail_view.specs.Gets.{get_of_kind, got}
use Rattle.method_args.specs.Outcomes.{replied}
use Rattle.method_args.specs.WrittenIds.{AreIds}
use Rattle.change_calls.specs.Responses.{changes_outcome}
use Rattle.filter_terms.specs.Texts.{MessageTexts}
use Rattle.query_engine.specs.Queries.{result_list}
use Rattle.query_engine.specs.Responses.{query_outcome}
use Rattle.query_changes.specs.Responses.{query_changes_outcome}
use Rattle.reply_readers.specs.ObjectsBack.{IsDistinct}
use Rattle.client_cache.specs.CacheForms.{known_filter, known_sort}
use Rattle.client_cache.specs.Caches.{Cached, KindView, ListView, kind_of, new_cached}
use Rattle.client_cache.specs.Progress.{Progress, agrees, by_account, by_arguments, by_error}
use Rattle.client_cache.specs.Requests.{changes_arguments, id_of, list_at, list_changes_arguments, list_results_arguments, next_asked, results_arguments}
use Rattle.client_cache.specs.Rounds.{Round, Step, at_changed, at_changes, at_list_changes, at_list_results, at_records, at_results, at_threads, first_step, list_step, load_of, starting}
use Rattle.client_follow.specs.Kinds.{HasPages, IsBrought, IsLoading, Leads}
use Rattle.client_follow.specs.Lists.{has_query, query_of_all, query_of_list}
use Rattle.client_follow.specs.Views.{AreExactly, view_at}

-- ---- agreement

-- The state of a kind, if it is known, is not past the end of the history; and if the history
-- reaches it, what is kept of the kind is what the history has there.
abbrev pub KindAgrees : Kind → History → Bool → KindView → Type 0
KindAgrees kind h read_only k =
    (s : ℕ) → k.state ≡ Some s
    → (s ≤ end_of h) × (Reaches h kind s → AreExactly (view_at kind h read_only s) k.records)

-- So it is with the state of a list, which is its query's there.
abbrev pub ListAgrees : History → (ℕ → MessageTexts) → ListView → Type 0
ListAgrees h texts l =
    (s : ℕ) → l.state ≡ Some s
    → (s ≤ end_of h)
    × (Reaches h OfEmail s → l.ids ≡ result_list (query_of_list l) (content_at h s) texts)

-- So it is with each kind and each list.
pub record Agrees (h : History) (read_only : Bool) (texts : ℕ → MessageTexts) (c : Cached)
    : Type 0 where
  pub kinds : (kind : Kind) → KindAgrees kind h read_only (kind_of kind c)
  pub lists : AllByRecursion (ListAgrees h texts) c.lists

-- ---- where a round begins

-- The new cache agrees with every history.
abbrev pub NewCachesAgree : Type 0
NewCachesAgree =
    (h : History) (read_only : Bool) (texts : ℕ → MessageTexts)
    → Agrees h read_only texts new_cached

-- A cache that agrees still does after the Session.
abbrev pub SessionsKeep : Type 0
SessionsKeep =
    (h : History) (read_only : Bool) (texts : ℕ → MessageTexts) (c : Cached) (r : Round)
    (path : List ℕ) (account : Option (List ℕ)) → Agrees h read_only texts c
    → Agrees h read_only texts (by_account c r path account).cache

-- A kind whose state is known is first asked for its changes since then, and where the history
-- reaches the state, the round brings the kind from there.
abbrev pub KindsBegin : Type 0
KindsBegin =
    (kind : Kind) (h : History) (read_only : Bool) (texts : ℕ → MessageTexts) (s : ℕ) (c : Cached)
    (r : Round) → Agrees h read_only texts c → (kind_of kind c).state ≡ Some s
    → (first_step kind c ≡ at_changes kind s)
    × (Reaches h kind s → IsBrought kind h read_only s s c (starting (first_step kind c) r))

-- A kind whose state is not known is loaded, and the round begins with no page.
abbrev pub LoadsBegin : Type 0
LoadsBegin =
    (kind : Kind) (list : List ℕ) (c : Cached) (r : Round) → (kind_of kind c).state ≡ None
    → (first_step kind c ≡ load_of kind) × HasPages list (starting (first_step kind c) r)

-- A list whose state is known is first asked for the changes of its query since then, and where the
-- history reaches the state, it is the query's there.
abbrev pub ListsBegin : Type 0
ListsBegin =
    (h : History) (read_only : Bool) (texts : ℕ → MessageTexts) (index s : ℕ) (l : ListView)
    (c : Cached) → Agrees h read_only texts c → slice_get c.lists index ≡ Some l
    → l.state ≡ Some s
    → (list_step index c ≡ at_list_changes index s)
    × (Reaches h OfEmail s
    → (list_at index c).ids
    ≡ result_list (query_of_list (list_at index c)) (content_at h s) texts)

-- ---- answers

-- What is made of an answer keeps a cache that agrees with the history.
abbrev pub Keeps : History → Bool → (ℕ → MessageTexts) → Option Progress → Type 0
Keeps h read_only texts made = Leads made (λ p. Agrees h read_only texts p.cache)

-- An answer to a call for changes.
abbrev pub ChangesKeep : Type 0
ChangesKeep =
    (kind : Kind) (h : History) (read_only : Bool) (texts : ℕ → MessageTexts) (account : List ℕ)
    (since from : ℕ) (c : Cached) (r : Round) (t : Tree) → IsFounded h → IsSound h
    → end_of h < NUMBER_LIMIT → Reaches h kind from → Agrees h read_only texts c
    → changes_outcome h kind (changes_arguments account from) ≡ replied t
    → IsBrought kind h read_only since from c r
    → Keeps h read_only texts (by_arguments c r (at_changes kind from) t)

-- An answer to a get of what they name.
abbrev pub GetsKeep : Type 0
GetsKeep =
    (kind : Kind) (h : History) (read_only : Bool) (texts : ℕ → MessageTexts) (account : List ℕ)
    (since now : ℕ) (c : Cached) (r : Round) (t : Tree) → IsFounded h → end_of h < NUMBER_LIMIT
    → AreIds kind (next_asked r) → IsDistinct (next_asked r) → Agrees h read_only texts c
    → get_of_kind kind h (client_get kind account (map (id_of kind) (next_asked r))) read_only
    ≡ got t
    → IsBrought kind h read_only since now c r
    → Keeps h read_only texts (by_arguments c r (at_changed kind now) t)

-- An answer to the query of a load. Where its state is the one that the round has, the round holds
-- the first results.
abbrev pub LoadsKeep : Type 0
LoadsKeep =
    (kind : Kind) (h : History) (read_only : Bool) (texts : ℕ → MessageTexts) (account : List ℕ)
    (state : Option ℕ) (c : Cached) (r : Round) (t : Tree) → has_query kind ≡ true → IsFounded h
    → IsSound h → end_of h < NUMBER_LIMIT → length r.results ≤ MAX_JSON_INTEGER
    → Agrees h read_only texts c
    → query_outcome kind (state_of h kind) (content_of h) texts
    (results_arguments account (length r.results))
    ≡ replied t
    → (agrees state (state_of h kind) ≡ true
    → HasPages (result_list (query_of_all kind) (content_of h) texts) r)
    → Keeps h read_only texts (by_arguments c r (at_results kind state) t)

-- An answer to a get of its results.
abbrev pub RecordsKeep : Type 0
RecordsKeep =
    (kind : Kind) (h : History) (read_only : Bool) (texts : ℕ → MessageTexts) (account : List ℕ)
    (now : ℕ) (c : Cached) (r : Round) (t : Tree) → IsFounded h → end_of h < NUMBER_LIMIT
    → AreIds kind (next_asked r) → IsDistinct (next_asked r) → Agrees h read_only texts c
    → get_of_kind kind h (client_get kind account (map (id_of kind) (next_asked r))) read_only
    ≡ got t
    → IsLoading kind h read_only now r
    → Keeps h read_only texts (by_arguments c r (at_records kind now) t)

-- An answer to a get of threads.
abbrev pub ThreadsKeep : Type 0
ThreadsKeep =
    (h : History) (read_only : Bool) (texts : ℕ → MessageTexts) (account : List ℕ) (now : ℕ)
    (c : Cached) (r : Round) (t : Tree) → IsFounded h → end_of h < NUMBER_LIMIT
    → AreIds OfThread (next_asked r) → IsDistinct (next_asked r) → Agrees h read_only texts c
    → get_of_kind OfThread h (client_get OfThread account (map (id_of OfThread) (next_asked r)))
    read_only
    ≡ got t
    → IsLoading OfThread h read_only now r
    → Keeps h read_only texts (by_arguments c r (at_threads now) t)

-- An answer to the query of a list.
abbrev pub ListsKeep : Type 0
ListsKeep =
    (h : History) (read_only : Bool) (texts : ℕ → MessageTexts) (account : List ℕ) (index : ℕ)
    (state : Option ℕ) (c : Cached) (r : Round) (t : Tree) → IsFounded h → IsSound h
    → end_of h < NUMBER_LIMIT → known_filter (list_at index c).filter ≡ true
    → known_sort (list_at index c).sort ≡ true → length r.results ≤ MAX_JSON_INTEGER
    → Agrees h read_only texts c
    → query_outcome OfEmail (state_of h OfEmail) (content_of h) texts
    (list_results_arguments account (list_at index c) (length r.results))
    ≡ replied t
    → (agrees state (state_of h OfEmail) ≡ true
    → HasPages (result_list (query_of_list (list_at index c)) (content_of h) texts) r)
    → Keeps h read_only texts (by_arguments c r (at_list_results index state) t)

-- An answer to a call for the changes of a list's query since its state.
abbrev pub DeltasKeep : Type 0
DeltasKeep =
    (h : History) (read_only : Bool) (texts : ℕ → MessageTexts) (account : List ℕ)
    (since index : ℕ) (c : Cached) (r : Round) (t : Tree) → IsFounded h → IsSound h
    → end_of h < NUMBER_LIMIT → known_filter (list_at index c).filter ≡ true
    → known_sort (list_at index c).sort ≡ true → Reaches h OfEmail since
    → (list_at index c).state ≡ Some since → Agrees h read_only texts c
    → query_changes_outcome h texts OfEmail
    (list_changes_arguments account (list_at index c) since)
    ≡ replied t
    → Keeps h read_only texts (by_arguments c r (at_list_changes index since) t)

-- The error that says that a state is too old, at any step.
abbrev pub ErrorsKeep : Type 0
ErrorsKeep =
    (h : History) (read_only : Bool) (texts : ℕ → MessageTexts) (c : Cached) (r : Round)
    (step : Step) → Agrees h read_only texts c
    → Agrees h read_only texts (by_error c r step).cache

-- ---- later

-- A cache that agrees with a history agrees with every later one, if each email at the state that
-- it keeps of emails has its blob.
abbrev pub AgreementStays : Type 0
AgreementStays =
    (h : History) (more : List Entry) (read_only : Bool) (texts : ℕ → MessageTexts) (c : Cached)
    → ((s : ℕ) → c.emails.state ≡ Some s
    → AllByRecursion (HasBlob (blobs_of h)) (content_at h s).emails)
    → Agrees h read_only texts c → Agrees (grown_by h more) read_only texts c
