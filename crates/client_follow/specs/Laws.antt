-- Laws of a round over the replies of a history.
use Rattle.std.specs.Prelude.{◌≡◌, ℕ, ◌==◌, ◌≤◌, ◌<◌, List, [], ◌++◌, Bool, true, false, length, Some, Option}
use Rattle.jm_base.specs.Splices.{has}
use Rattle.jm_base.specs.declared.identifiers.Kind.{Kind}
use Rattle.jm_json.specs.Tree.{Tree}
use Rattle.jm_base.specs.Ids.{IsState}
use Rattle.method_args.specs.WrittenIds.{AreIds}
use Rattle.method_args.specs.declared.TheConstants.{MAX_OBJECTS_PER_CALL}
use Rattle.reply_readers.specs.ObjectsBack.{IsDistinct}
use Rattle.client_follow.specs.Gets.{IsRead}
use Rattle.reply_readers.specs.Results.{results_with}
use Rattle.client_follow.specs.Kinds.{GoesOn, HasPages, IsBrought, IsKeptAt, IsLoading, IsOn, IsOnPages, LoadGoesOn}
use Rattle.client_follow.specs.Results.{AreResultsRead}
use Rattle.jm_base.specs.declared.limits.TheConstants.{MAX_JSON_INTEGER}
use Rattle.jm_base.specs.declared.identifiers.Kind.TheVariants.{Email as OfEmail, Thread as OfThread}
use Rattle.client_cache.specs.CacheForms.{known_filter, known_sort}
use Rattle.client_follow.specs.Pages.{IsPageRead}
use Rattle.jm_base.specs.declared.identifiers.TheConstants.{NUMBER_LIMIT}
use Rattle.mail_records.specs.Histories.{FloorsAtMost, History, IsFounded, IsSound, content_at, content_of, end_of}
use Rattle.mail_records.specs.States.{Reaches, state_at, state_of}
use Rattle.filter_terms.specs.Texts.{MessageTexts}
use Rattle.query_engine.specs.Queries.{result_list}
use Rattle.query_engine.specs.Views.{QueryTree}
use Rattle.query_changes.specs.Deltas.{delta_of}
use Rattle.query_changes.specs.Responses.{query_changes_outcome}
use Rattle.method_args.specs.Outcomes.{replied}
use Rattle.client_follow.specs.Deltas.{IsDeltaRead}
use Rattle.change_calls.specs.Changes.{created, destroyed, is_there, page_end, updated}
use Rattle.reply_readers.specs.Deltas.{delta_with}
use Rattle.reply_readers.specs.Objects.{Objects}
use Rattle.reply_readers.specs.Pages.{page_with}
use Rattle.client_cache.specs.Caches.{Cached, ListView, kind_of}
use Rattle.client_cache.specs.Progress.{after_results, by_arguments, agrees, by_list_results, by_records, by_results, by_threads, after_get, after_page, ask_for, by_changed, by_delta, by_page, is_full, leave_list, with_changes}
use Rattle.client_cache.specs.Requests.{list_at, list_changes_arguments, list_results_arguments, next_asked, results_arguments}
use Rattle.client_cache.specs.Rounds.{Round, Step, at_changed, at_changes, at_list_changes, at_list_results, at_results, starting}
use Rattle.client_cache.specs.declared.limits.TheConstants.{MAX_CHANGES, MAX_RESULTS}
use Rattle.client_follow.specs.Holdings.{IsOnTheWay, ShowsAsked, no_view}
use Rattle.client_follow.specs.Lists.{IsBeginning, has_query, part_from, query_of_all, query_of_list}
use Rattle.client_follow.specs.Views.{AreExactly, view_at}

-- ---- maps of a kind

-- Records that are exactly the objects of one map are one list.
abbrev pub RecordsAreOne : Type 0
RecordsAreOne =
    (view : List ℕ → Option Tree) (records others : List (List ℕ × Tree))
    → AreExactly view records → AreExactly view others → records ≡ others

-- The objects at a position are those at the state that the kind has there.
abbrev pub StatesDecide : Type 0
StatesDecide =
    (kind : Kind) (h : History) (read_only : Bool) (k : ℕ) (id : List ℕ)
    → FloorsAtMost h.floors h.floor → h.floor ≤ k
    → view_at kind h read_only k id ≡ view_at kind h read_only (state_at h kind k) id

-- ---- changes

-- A round that holds nothing is on the way from a state to that state.
abbrev pub StartsAtItsState : Type 0
StartsAtItsState =
    (kind : Kind) (view : List ℕ → Option Tree) (step : Step) (r : Round)
    → IsOnTheWay kind view view (starting step r)

-- After a page of changes it is on the way to the state where the page ends.
abbrev pub PagesLeadOn : Type 0
PagesLeadOn =
    (kind : Kind) (h : History) (read_only : Bool) (before : List ℕ → Option Tree)
    (from upto : ℕ) (more : Bool) (state : ℕ) (r : Round) → from ≤ upto
    → IsOnTheWay kind before (view_at kind h read_only from) r
    → IsOnTheWay kind before (view_at kind h read_only upto)
    (after_page kind
    (page_with (created h kind from upto) (destroyed h kind from upto) (updated h kind from upto)
    more state)
    r)

-- A call for the changes since a state that the history reaches is answered, and read as the page
-- from that state to where it ends.
abbrev pub PagesAreRead : Type 0
PagesAreRead =
    (kind : Kind) (h : History) (account pointer : List ℕ) (since : ℕ) → IsFounded h → IsSound h
    → end_of h < NUMBER_LIMIT → Reaches h kind since
    → IsPageRead kind h account pointer since (page_end h kind (Some MAX_CHANGES) since)

-- After a get at the state that it has, of the records that it asks for next, it is still on the
-- way there.
abbrev pub GetsLeadOn : Type 0
GetsLeadOn =
    (kind : Kind) (before now : List ℕ → Option Tree) (o : Objects) (r : Round)
    → ShowsAsked kind now (next_asked r) o → IsOnTheWay kind before now r
    → IsOnTheWay kind before now (after_get kind o r)

-- A get of records of which each is asked for once is answered and read as the objects that the
-- history has at its end.
abbrev pub GetsAreRead : Type 0
GetsAreRead =
    (kind : Kind) (h : History) (read_only : Bool) (account pointer asked : List ℕ)
    → AreIds kind asked → IsDistinct asked → length asked ≤ MAX_OBJECTS_PER_CALL
    → IsState (state_of h kind) → IsRead kind h read_only account pointer asked

-- Once nothing is left to be asked for, the records of the kind become those of the new state.
abbrev pub ChangesArrive : Type 0
ChangesArrive =
    (kind : Kind) (before now : List ℕ → Option Tree) (state : ℕ) (c : Cached) (r : Round)
    → IsOnTheWay kind before now r → r.asked ≡ []
    → AreExactly before (kind_of kind c).records
    → AreExactly now (kind_of kind (with_changes kind state c r)).records

-- ---- a round's steps of a kind

-- A round that begins with the changes since the state that is kept brings the kind from there.
abbrev pub KindStarts : Type 0
KindStarts =
    (kind : Kind) (h : History) (read_only : Bool) (since : ℕ) (c : Cached) (r : Round)
    → IsKeptAt kind h read_only since c
    → IsBrought kind h read_only since since c (starting (at_changes kind since) r)

-- After a page it brings the kind to the state where the page ends. If that is not the last one,
-- the changes since that state are asked next; else a get, or the kind is there.
abbrev pub KindPages : Type 0
KindPages =
    (kind : Kind) (h : History) (read_only : Bool) (since from upto : ℕ) (c : Cached) (r : Round)
    → from ≤ upto → FloorsAtMost h.floors h.floor → h.floor ≤ upto
    → IsBrought kind h read_only since from c r
    → IsOn kind h read_only since (state_at h kind upto) (at_changes kind (state_at h kind upto))
    (by_page c r kind
    (page_with (created h kind from upto) (destroyed h kind from upto) (updated h kind from upto)
    true (state_at h kind upto)))
    × GoesOn kind h read_only since (state_at h kind upto) (at_changed kind (state_at h kind upto))
    (by_page c r kind
    (page_with (created h kind from upto) (destroyed h kind from upto) (updated h kind from upto)
    false (state_at h kind upto)))

-- After a get at the state that it has, a further get is asked, or the kind is there.
abbrev pub KindGets : Type 0
KindGets =
    (kind : Kind) (h : History) (read_only : Bool) (since now : ℕ) (c : Cached) (r : Round)
    (o : Objects) → o.state ≡ now → ShowsAsked kind (view_at kind h read_only now) (next_asked r) o
    → IsBrought kind h read_only since now c r
    → GoesOn kind h read_only since now (at_changed kind now) (by_changed c r kind now o)

-- After a get that shows another state it is where it was, and asks for the changes since the state
-- that it has.
abbrev pub KindMoves : Type 0
KindMoves =
    (kind : Kind) (h : History) (read_only : Bool) (since now : ℕ) (c : Cached) (r : Round)
    (o : Objects) → (now == o.state) ≡ false → IsBrought kind h read_only since now c r
    → IsOn kind h read_only since now (at_changes kind now) (by_changed c r kind now o)

-- ---- loads

-- A load that holds nothing, and asks for all records that are there, is on the way.
abbrev pub LoadsStart : Type 0
LoadsStart =
    (kind : Kind) (h : History) (read_only : Bool) (k : ℕ) (numbers : List ℕ) (step : Step)
    (r : Round)
    → ((n : ℕ) → is_there h kind k n ≡ true → has numbers n ≡ true)
    → IsOnTheWay kind no_view (view_at kind h read_only k) (ask_for numbers (starting step r))

-- Once nothing is left to be asked for, what the load got are the records of the state.
abbrev pub LoadsArrive : Type 0
LoadsArrive =
    (kind : Kind) (now : List ℕ → Option Tree) (r : Round) → IsOnTheWay kind no_view now r
    → r.asked ≡ [] → AreExactly now r.got

-- ---- a round's steps of a load

-- A page of a load that is full is followed by the next one at its state. With one that is not full
-- all results are there; if they name each record that is there, these are got next, or there is
-- none.
abbrev pub LoadPages : Type 0
LoadPages =
    (kind : Kind) (h : History) (read_only : Bool) (now : ℕ) (list : List ℕ) (state : Option ℕ)
    (c : Cached) (r : Round) → agrees state now ≡ true → HasPages list r
    → (is_full (part_from list MAX_RESULTS (length r.results)) ≡ true
    → IsOnPages list (at_results kind (Some now))
    (by_results c r kind state
    (results_with (part_from list MAX_RESULTS (length r.results)) now)))
    × (is_full (part_from list MAX_RESULTS (length r.results)) ≡ false
    → ((n : ℕ) → is_there h kind now n ≡ true → has list n ≡ true)
    → LoadGoesOn kind h read_only now
    (by_results c r kind state
    (results_with (part_from list MAX_RESULTS (length r.results)) now)))

-- After a get at its state, a further get is asked, or the kind is there.
abbrev pub LoadGets : Type 0
LoadGets =
    (kind : Kind) (h : History) (read_only : Bool) (now : ℕ) (c : Cached) (r : Round)
    (o : Objects) → o.state ≡ now → ShowsAsked kind (view_at kind h read_only now) (next_asked r) o
    → IsLoading kind h read_only now r
    → LoadGoesOn kind h read_only now (by_records c r kind now o)

-- So it is with a get of threads.
abbrev pub ThreadGets : Type 0
ThreadGets =
    (h : History) (read_only : Bool) (now : ℕ) (c : Cached) (r : Round) (o : Objects)
    → o.state ≡ now → ShowsAsked OfThread (view_at OfThread h read_only now) (next_asked r) o
    → IsLoading OfThread h read_only now r
    → LoadGoesOn OfThread h read_only now (by_threads c r now o)

-- A page of a list that is full is followed by the next one at its state. With one that is not full
-- the list is kept at that state, and the next list follows.
abbrev pub ListPages : Type 0
ListPages =
    (now index : ℕ) (list : List ℕ) (state : Option ℕ) (c : Cached) (r : Round)
    → agrees state now ≡ true → HasPages list r
    → (is_full (part_from list MAX_RESULTS (length r.results)) ≡ true
    → IsOnPages list (at_list_results index (Some now))
    (by_list_results c r index state
    (results_with (part_from list MAX_RESULTS (length r.results)) now)))
    × (is_full (part_from list MAX_RESULTS (length r.results)) ≡ false
    → by_list_results c r index state
    (results_with (part_from list MAX_RESULTS (length r.results)) now)
    ≡ leave_list index list now c
    (after_results (results_with (part_from list MAX_RESULTS (length r.results)) now) r))

-- ---- pages of a query

-- With the page that begins where the ids so far end, these are still the beginning of the list.
abbrev pub PagesFollow : Type 0
PagesFollow =
    (list so_far : List ℕ) → IsBeginning list so_far
    → IsBeginning list (so_far ++ part_from list MAX_RESULTS (length so_far))

-- A page that is not full is the last one: the ids are the list.
abbrev pub LastPagesComplete : Type 0
LastPagesComplete =
    (list so_far : List ℕ) → IsBeginning list so_far
    → is_full (part_from list MAX_RESULTS (length so_far)) ≡ false
    → so_far ++ part_from list MAX_RESULTS (length so_far) ≡ list

-- A query of a list that a client keeps, with a filter and a sort that Email/query takes, is
-- answered, and read as the part of the query's list that begins at the position which was asked
-- for.
abbrev pub ListsAreRead : Type 0
ListsAreRead =
    (h : History) (texts : ℕ → MessageTexts) (account pointer : List ℕ) (l : ListView)
    (position : ℕ) → IsFounded h → IsSound h → end_of h < NUMBER_LIMIT
    → known_filter l.filter ≡ true → known_sort l.sort ≡ true → position ≤ MAX_JSON_INTEGER
    → AreResultsRead OfEmail h texts account pointer (list_results_arguments account l position)
    (result_list (query_of_list l) (content_of h) texts) position

-- ---- changes of a query

-- A list that is the query's at a state becomes, by the changes since then, the query's at the end,
-- and the next list follows.
abbrev pub DeltasArrive : Type 0
DeltasArrive =
    (h : History) (q : QueryTree) (texts : ℕ → MessageTexts) (s state index : ℕ) (c : Cached)
    (r : Round) → IsSound h → Reaches h q.kind s
    → (list_at index c).ids ≡ result_list q (content_at h s) texts
    → by_delta c r index
    (delta_with (delta_of h q texts s).added (delta_of h q texts s).removed state)
    ≡ Some (leave_list index (result_list q (content_of h) texts) state c r)

-- A call for the changes of a kept list's query since a state that the history reaches, with a
-- filter and a sort that Email/queryChanges takes, is answered and read as the changes since then.
abbrev pub DeltasAreRead : Type 0
DeltasAreRead =
    (h : History) (texts : ℕ → MessageTexts) (account pointer : List ℕ) (l : ListView) (since : ℕ)
    → IsFounded h → IsSound h → end_of h < NUMBER_LIMIT → known_filter l.filter ≡ true
    → known_sort l.sort ≡ true → Reaches h OfEmail since
    → IsDeltaRead h texts account pointer l since

-- A kept list that is its query's at the state since which it asks becomes, by what the call is
-- answered, its query's at the end of the history, at the state of emails, and the next list
-- follows.
abbrev pub ListsAreBrought : Type 0
ListsAreBrought =
    (h : History) (texts : ℕ → MessageTexts) (account : List ℕ) (since index : ℕ) (c : Cached)
    (r : Round) (t : Tree) → IsFounded h → IsSound h → end_of h < NUMBER_LIMIT
    → known_filter (list_at index c).filter ≡ true → known_sort (list_at index c).sort ≡ true
    → Reaches h OfEmail since
    → (list_at index c).ids
    ≡ result_list (query_of_list (list_at index c)) (content_at h since) texts
    → query_changes_outcome h texts OfEmail
    (list_changes_arguments account (list_at index c) since)
    ≡ replied t
    → by_arguments c r (at_list_changes index since) t
    ≡ Some (leave_list index
    (result_list (query_of_list (list_at index c)) (content_of h) texts) (state_of h OfEmail) c r)

-- ---- queries of a load

-- A query of all records of a kind, as a load asks it, is answered, and read as the part of the
-- query's list that begins at the position which was asked for.
abbrev pub LoadsAreRead : Type 0
LoadsAreRead =
    (kind : Kind) (h : History) (texts : ℕ → MessageTexts) (account pointer : List ℕ)
    (position : ℕ) → has_query kind ≡ true → IsFounded h → IsSound h → end_of h < NUMBER_LIMIT
    → position ≤ MAX_JSON_INTEGER
    → AreResultsRead kind h texts account pointer (results_arguments account position)
    (result_list (query_of_all kind) (content_of h) texts) position

-- Its list has exactly the records that are there.
abbrev pub LoadsNameAll : Type 0
LoadsNameAll =
    (kind : Kind) (h : History) (texts : ℕ → MessageTexts) (k n : ℕ) → has_query kind ≡ true
    → has (result_list (query_of_all kind) (content_at h k) texts) n ≡ is_there h kind k n
