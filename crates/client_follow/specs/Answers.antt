-- Laws of what an answer makes of a round: whatever the call of its step is answered, over an
-- account with a history.
use Rattle.std.specs.Prelude.{◌≡◌, ℕ, ◌+◌, ◌==◌, ◌≤◌, ◌<◌, List, Bool, true, false, length, map, Option, Some, None}
use Rattle.jm_base.specs.declared.identifiers.Kind.{Kind}
use Rattle.jm_base.specs.declared.identifiers.Kind.TheVariants.{Email as OfEmail, Thread as OfThread}
use Rattle.jm_base.specs.declared.identifiers.TheConstants.{NUMBER_LIMIT}
use Rattle.jm_base.specs.declared.limits.TheConstants.{MAX_JSON_INTEGER}
use Rattle.jm_json.specs.Tree.{Tree}
use Rattle.mail_records.specs.Histories.{History, IsFounded, IsSound, content_of, end_of}
use Rattle.mail_records.specs.States.{Reaches, state_at, state_of}
use Rattle.mail_view.specs.CachedViews.{client_get}
use Rattle.mail_view.specs.Gets.{get_of_kind, got}
use Rattle.method_args.specs.Outcomes.{replied}
use Rattle.method_args.specs.WrittenIds.{AreIds}
use Rattle.change_calls.specs.Changes.{page_end}
use Rattle.change_calls.specs.Responses.{changes_outcome}
use Rattle.filter_terms.specs.Texts.{MessageTexts}
use Rattle.query_engine.specs.Queries.{result_list}
use Rattle.query_engine.specs.Responses.{query_outcome}
use Rattle.reply_readers.specs.ObjectsBack.{IsDistinct}
use Rattle.client_cache.specs.CacheForms.{known_filter, known_sort}
use Rattle.client_cache.specs.Caches.{Cached}
use Rattle.client_cache.specs.Progress.{Progress, agrees, by_arguments, is_full}
use Rattle.client_cache.specs.Records.{with_results}
use Rattle.client_cache.specs.Requests.{changes_arguments, id_of, list_at, list_results_arguments, next_asked, results_arguments}
use Rattle.client_cache.specs.Rounds.{Round, Step, at_changed, at_changes, at_list_results, at_records, at_results, at_threads, first_step, list_step, load_of}
use Rattle.client_cache.specs.declared.limits.TheConstants.{MAX_CHANGES, MAX_RESULTS}
use Rattle.client_follow.specs.Kinds.{Begins, GoesOn, HasPages, IsBrought, IsLoading, IsOn, IsOnPages, Leads, LoadGoesOn}
use Rattle.client_follow.specs.Lists.{has_query, part_from, query_of_all, query_of_list}

-- ---- changes

-- After a page of changes up to a position the round asks for the next page; after the last one for
-- a get of what they name, or the kind is what the history has at its end.
abbrev pub GoesByPage : Kind → History → Bool → ℕ → ℕ → Progress → Type 0
GoesByPage kind h read_only since upto p =
    ((upto == end_of h) ≡ false
    → IsOn kind h read_only since (state_at h kind upto) (at_changes kind (state_at h kind upto)) p)
    × ((upto == end_of h) ≡ true
    → GoesOn kind h read_only since (state_of h kind) (at_changed kind (state_of h kind)) p)

-- A call for the changes since the state that the round has.
abbrev pub ChangesAnswered : Type 0
ChangesAnswered =
    (kind : Kind) (h : History) (read_only : Bool) (account : List ℕ) (since from : ℕ) (c : Cached)
    (r : Round) (t : Tree) → IsFounded h → IsSound h → end_of h < NUMBER_LIMIT
    → Reaches h kind from → changes_outcome h kind (changes_arguments account from) ≡ replied t
    → IsBrought kind h read_only since from c r
    → Leads (by_arguments c r (at_changes kind from) t)
    (GoesByPage kind h read_only since (page_end h kind (Some MAX_CHANGES) from))

-- After a get at the state that the round has, it asks for a further get, or the kind is what the
-- history has at its end; after one at another state, for the changes since the state that it has.
abbrev pub GoesByGet : Kind → History → Bool → ℕ → ℕ → Progress → Type 0
GoesByGet kind h read_only since now p =
    ((now == state_of h kind) ≡ true
    → GoesOn kind h read_only since now (at_changed kind now) p)
    × ((now == state_of h kind) ≡ false
    → IsOn kind h read_only since now (at_changes kind now) p)

-- A get of what the pages name.
abbrev pub GetsAnswered : Type 0
GetsAnswered =
    (kind : Kind) (h : History) (read_only : Bool) (account : List ℕ) (since now : ℕ) (c : Cached)
    (r : Round) (t : Tree) → IsFounded h → end_of h < NUMBER_LIMIT → AreIds kind (next_asked r)
    → IsDistinct (next_asked r)
    → get_of_kind kind h (client_get kind account (map (id_of kind) (next_asked r))) read_only
    ≡ got t
    → IsBrought kind h read_only since now c r
    → Leads (by_arguments c r (at_changed kind now) t) (GoesByGet kind h read_only since now)

-- ---- loads

-- After a page of a load at the state that the round has, or at any if it has none, it asks for the
-- next page, or for a get of all results, or there is no record; after one at another state it
-- begins again.
abbrev pub GoesByResults
    : Kind → History → Bool → List ℕ → Option ℕ → Cached → Round → Progress → Type 0
GoesByResults kind h read_only list state c r p =
    (agrees state (state_of h kind) ≡ true → HasPages list r
    → (is_full (part_from list MAX_RESULTS (length r.results)) ≡ true
    → IsOnPages list (at_results kind (Some (state_of h kind))) p)
    × (is_full (part_from list MAX_RESULTS (length r.results)) ≡ false
    → LoadGoesOn kind h read_only (state_of h kind) p))
    × (agrees state (state_of h kind) ≡ false → Begins (at_results kind None) c p)

-- A query of all mailboxes or all emails, from where the results so far end.
abbrev pub LoadsAnswered : Type 0
LoadsAnswered =
    (kind : Kind) (h : History) (read_only : Bool) (texts : ℕ → MessageTexts) (account : List ℕ)
    (state : Option ℕ) (c : Cached) (r : Round) (t : Tree) → has_query kind ≡ true → IsFounded h
    → IsSound h → end_of h < NUMBER_LIMIT → length r.results ≤ MAX_JSON_INTEGER
    → query_outcome kind (state_of h kind) (content_of h) texts
    (results_arguments account (length r.results))
    ≡ replied t
    → Leads (by_arguments c r (at_results kind state) t)
    (GoesByResults kind h read_only (result_list (query_of_all kind) (content_of h) texts) state c
    r)

-- After a get of a load at its state the round asks for a further get, or the kind is what the
-- history has at its end; after one at another state it begins again at this step.
abbrev pub GoesByRecords : Kind → History → Bool → ℕ → Step → Cached → Progress → Type 0
GoesByRecords kind h read_only now again c p =
    ((now == state_of h kind) ≡ true → LoadGoesOn kind h read_only now p)
    × ((now == state_of h kind) ≡ false → Begins again c p)

-- A get of the results of a load.
abbrev pub RecordsAnswered : Type 0
RecordsAnswered =
    (kind : Kind) (h : History) (read_only : Bool) (account : List ℕ) (now : ℕ) (c : Cached)
    (r : Round) (t : Tree) → IsFounded h → end_of h < NUMBER_LIMIT → AreIds kind (next_asked r)
    → IsDistinct (next_asked r)
    → get_of_kind kind h (client_get kind account (map (id_of kind) (next_asked r))) read_only
    ≡ got t
    → IsLoading kind h read_only now r
    → Leads (by_arguments c r (at_records kind now) t)
    (GoesByRecords kind h read_only now (load_of kind) c)

-- A get of the threads of the emails that are kept. After one at another state emails are brought
-- up to date again.
abbrev pub ThreadsAnswered : Type 0
ThreadsAnswered =
    (h : History) (read_only : Bool) (account : List ℕ) (now : ℕ) (c : Cached) (r : Round)
    (t : Tree) → IsFounded h → end_of h < NUMBER_LIMIT → AreIds OfThread (next_asked r)
    → IsDistinct (next_asked r)
    → get_of_kind OfThread h (client_get OfThread account (map (id_of OfThread) (next_asked r)))
    read_only
    ≡ got t
    → IsLoading OfThread h read_only now r
    → Leads (by_arguments c r (at_threads now) t)
    (GoesByRecords OfThread h read_only now (first_step OfEmail c) c)

-- ---- lists

-- After a page of a list at the state that the round has, or at any if it has none, it asks for the
-- next page, or the whole list is kept at the state of emails and the next list follows; after one
-- at another state it begins again.
abbrev pub GoesByList : History → List ℕ → ℕ → Option ℕ → Cached → Round → Progress → Type 0
GoesByList h list index state c r p =
    (agrees state (state_of h OfEmail) ≡ true → HasPages list r
    → (is_full (part_from list MAX_RESULTS (length r.results)) ≡ true
    → IsOnPages list (at_list_results index (Some (state_of h OfEmail))) p)
    × (is_full (part_from list MAX_RESULTS (length r.results)) ≡ false
    → Begins (list_step (index + 1) c) (with_results index list (Some (state_of h OfEmail)) c) p))
    × (agrees state (state_of h OfEmail) ≡ false → Begins (at_list_results index None) c p)

-- A query of a list that is kept, from where the results so far end.
abbrev pub ListsAnswered : Type 0
ListsAnswered =
    (h : History) (texts : ℕ → MessageTexts) (account : List ℕ) (index : ℕ) (state : Option ℕ)
    (c : Cached) (r : Round) (t : Tree) → IsFounded h → IsSound h → end_of h < NUMBER_LIMIT
    → known_filter (list_at index c).filter ≡ true → known_sort (list_at index c).sort ≡ true
    → length r.results ≤ MAX_JSON_INTEGER
    → query_outcome OfEmail (state_of h OfEmail) (content_of h) texts
    (list_results_arguments account (list_at index c) (length r.results))
    ≡ replied t
    → Leads (by_arguments c r (at_list_results index state) t)
    (GoesByList h (result_list (query_of_list (list_at index c)) (content_of h) texts) index state c
    r)
