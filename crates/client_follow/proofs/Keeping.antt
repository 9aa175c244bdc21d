-- Answers keep a cache that agrees with a history.
use Rattle.std.proofs.Common.{◌≡◌, ℕ, ◌≤◌, zero, suc, List, [], ◌∷◌, ◌++◌, length, Bool, true, false, not, eqb, eqb-true, cond, Some, None, slice_get, unwrap_or, refl, sym, ap, ◌∙◌, subst, arith}
use Rattle.std.specs.List.{AllByRecursion}
use Rattle.std.proofs.lemmas.Option.{none-some, same_Some}
use Rattle.jm_base.specs.declared.identifiers.Kind.{Kind}
use Rattle.jm_base.specs.declared.identifiers.Kind.TheVariants.{Mailbox as OfMailbox, Email as OfEmail, Thread as OfThread}
use Rattle.jm_json.specs.Tree.{Tree}
use Rattle.mail_records.specs.Histories.{FloorsAtMost, History, content_at, content_of, end_of}
use Rattle.mail_records.specs.States.{Reaches, state_at, state_of}
use Rattle.mail_records.specs.declared.records.Email.{Email}
use Rattle.mail_records.proofs.Reached.{Reaches-state_of, state_at-end, state_at-most}
use Rattle.change_calls.specs.Changes.{created, destroyed, page_end, updated}
use Rattle.change_calls.proofs.Exact.{IsPage-page_end, past_floor}
use Rattle.filter_terms.specs.Texts.{MessageTexts}
use Rattle.query_engine.specs.Queries.{result_list}
use Rattle.reply_readers.specs.Objects.{Objects}
use Rattle.reply_readers.specs.Pages.{page_with}
use Rattle.reply_readers.specs.Results.{results_with}
use Rattle.client_cache.specs.Caches.{Cached, KindView, ListView, all_list, kind_of, new_cached}
use Rattle.client_cache.specs.Progress.{after_changed, after_get, after_page, after_records, after_results, agrees, ask_for, by_changed, by_list_results, by_page, by_records, by_results, by_threads, is_full, leave_kind, leave_list, move_to, records_at, stay, with_changes}
use Rattle.client_cache.specs.Records.{forget_state, set_results, update_at, with_kind, with_records, with_results, with_state, without_state}
use Rattle.client_cache.specs.Requests.{list_at, list_results_arguments, next_asked, results_arguments}
use Rattle.client_cache.specs.Rounds.{Round, first_step, list_step_from, load_of, at_session, at_changes, at_changed, at_results, at_records, at_thread_state, at_email_state, at_threads, at_list_changes, at_list_results, done, list_step_of, starting, step_from}
use Rattle.client_cache.specs.declared.limits.TheConstants.{MAX_CHANGES, MAX_RESULTS}
use Rattle.client_follow.specs.Agreement.{Agrees, ChangesKeep, DeltasKeep, ErrorsKeep, GetsKeep, KindAgrees, KindsBegin, ListAgrees, ListsBegin, ListsKeep, LoadsBegin, LoadsKeep, NewCachesAgree, RecordsKeep, SessionsKeep, ThreadsKeep}
use Rattle.client_follow.specs.Holdings.{ShowsAsked, no_view}
use Rattle.client_follow.specs.Kinds.{HasPages, IsBrought, IsLoading}
use Rattle.client_follow.specs.Lists.{part_from, query_of_all, query_of_list}
use Rattle.client_follow.specs.Views.{AreExactly, view_at}
use Rattle.client_follow.proofs.Answered.{changes_made, content_end, get_made, names_all, page_read, read_get, results_made, shows_at}
use Rattle.client_follow.proofs.Between.{changes_arrive, gets_lead_on, loads_arrive, same_records, starts_at_its_state}
use Rattle.client_follow.proofs.Bringing.{kind_kept, none_left, page_brings}
use Rattle.client_follow.proofs.DeltasRead.{lists_are_brought}
use Rattle.client_follow.proofs.Loading.{asks_all}
use Rattle.client_follow.proofs.LoadsRead.{loads_are_read}
use Rattle.client_follow.proofs.Parts.{last_pages_complete}
use Rattle.client_follow.proofs.Results.{lists_are_read}

-- ---- a list at the state of the end

list_end : (h : History) (l : ListView) (texts : ℕ → MessageTexts) → FloorsAtMost h.floors h.floor
    → result_list (query_of_list l) (content_of h) texts ≡ result_list (query_of_list l) (content_at h (state_of h OfEmail)) texts
list_end h l texts floors =
    let d = content_at h (state_at h OfEmail (end_of h)) in
    ap (λ c. result_list (query_of_list l) c texts) (sym (content_end h))
    ∙ ap (λ (rows : List Email). result_list (query_of_list l) (record d { emails = rows }) texts) (same_records OfEmail h (end_of h) floors (omega arith))
    ∙ ap (λ s. result_list (query_of_list l) (content_at h s) texts) (state_at-end h OfEmail)

-- ---- what becomes of a cache that agrees

module _ (h : History) (read_only : Bool) (texts : ℕ → MessageTexts) where
  kind_agrees : (kind : Kind) (k : KindView) (c : Cached) → Agrees h read_only texts c → KindAgrees kind h read_only k → Agrees h read_only texts (with_kind kind k c)
  kind_agrees OfMailbox k c a is = record { kinds = by; lists = a.lists }
    where
      by : (kind : Kind) → KindAgrees kind h read_only (kind_of kind (record c { mailboxes = k }))
      by OfMailbox = is
      by OfEmail = a.kinds OfEmail
      by OfThread = a.kinds OfThread
  kind_agrees OfEmail k c a is = record { kinds = by; lists = a.lists }
    where
      by : (kind : Kind) → KindAgrees kind h read_only (kind_of kind (record c { emails = k }))
      by OfMailbox = a.kinds OfMailbox
      by OfEmail = is
      by OfThread = a.kinds OfThread
  kind_agrees OfThread k c a is = record { kinds = by; lists = a.lists }
    where
      by : (kind : Kind) → KindAgrees kind h read_only (kind_of kind (record c { threads = k }))
      by OfMailbox = a.kinds OfMailbox
      by OfEmail = a.kinds OfEmail
      by OfThread = is

  at_one : (kind : Kind) (records : List (List ℕ × Tree)) (now : ℕ) → now ≤ end_of h → AreExactly (view_at kind h read_only now) records → KindAgrees kind h read_only (record { records = records; state = Some now })
  at_one kind records now le are s e =
      (subst (λ n. n ≤ end_of h) (same_Some now s e) le, λ reached. subst (λ n. AreExactly (view_at kind h read_only n) records) (same_Some now s e) are)

  lists_agree : (ls : List ListView) (c : Cached) → Agrees h read_only texts c → AllByRecursion (ListAgrees h texts) ls → Agrees h read_only texts (record c { lists = ls })
  lists_agree ls c a all = record { kinds = by; lists = all }
    where
      by : (kind : Kind) → KindAgrees kind h read_only (kind_of kind (record c { lists = ls }))
      by OfMailbox = a.kinds OfMailbox
      by OfEmail = a.kinds OfEmail
      by OfThread = a.kinds OfThread

  set_one : (index : ℕ) (ids : List ℕ) (now : ℕ) (ls : List ListView) → now ≤ end_of h → AllByRecursion (ListAgrees h texts) ls
      → ids ≡ result_list (query_of_list (unwrap_or (slice_get ls index) all_list)) (content_at h now) texts → AllByRecursion (ListAgrees h texts) (update_at index (set_results ids (Some now)) ls)
  set_one index ids now [] le all is = tt
  set_one zero ids now (l ∷ ls) le all is = (
    λ s e.
        (subst (λ n. n ≤ end_of h) (same_Some now s e) le, λ reached. is ∙ ap (λ n. result_list (query_of_list l) (content_at h n) texts) (same_Some now s e)),
    all.1,
  )
  set_one (suc i) ids now (l ∷ ls) le all is = (all.0, set_one i ids now ls le all.1 is)

  forget_one : (index : ℕ) (ls : List ListView) → AllByRecursion (ListAgrees h texts) ls → AllByRecursion (ListAgrees h texts) (update_at index forget_state ls)
  forget_one index [] all = tt
  forget_one zero (l ∷ ls) all = (λ s e. absurd (none-some s e), all.1)
  forget_one (suc i) (l ∷ ls) all = (all.0, forget_one i ls all.1)

  -- a list that became its query's at the end
  list_kept : (index : ℕ) (ids : List ℕ) (c : Cached) → FloorsAtMost h.floors h.floor → Agrees h read_only texts c
      → ids ≡ result_list (query_of_list (list_at index c)) (content_of h) texts → Agrees h read_only texts (with_results index ids (Some (state_of h OfEmail)) c)
  list_kept index ids c floors a is =
      lists_agree _ c a (set_one index ids (state_of h OfEmail) c.lists ((Reaches-state_of h OfEmail floors).1) a.lists (is ∙ list_end h (list_at index c) texts floors))

  kind_reset : (kind : Kind) (c : Cached) → Agrees h read_only texts c → Agrees h read_only texts (with_state kind None c)
  kind_reset kind c a = kind_agrees kind _ c a (λ s e. absurd (none-some s e))

  list_reset : (index : ℕ) (c : Cached) → Agrees h read_only texts c → Agrees h read_only texts (without_state index c)
  list_reset index c a = lists_agree _ c a (forget_one index c.lists a.lists)

  -- ---- steps

  changed_keeps : (kind : Kind) (since now : ℕ) (c : Cached) (r : Round) → now ≤ end_of h → Agrees h read_only texts c → IsBrought kind h read_only since now c r → Agrees h read_only texts (after_changed kind now c r).cache
  changed_keeps kind since now c r le a b = by (eqb (length r.asked) 0) refl
    where
      by : (t : Bool) → eqb (length r.asked) 0 ≡ t → Agrees h read_only texts (cond t (leave_kind kind (with_changes kind now c r) r) (stay (at_changed kind now) c r)).cache
      by true e =
          kind_agrees kind _ c a
          (at_one kind _ now le (subst (λ (k : KindView). AreExactly (view_at kind h read_only now) k.records) (kind_kept kind _ c)
          (changes_arrive kind (view_at kind h read_only since) (view_at kind h read_only now) now c r b.way (none_left r.asked e) b.kept.records)))
      by false e = a

  records_keep : (kind : Kind) (now : ℕ) (c : Cached) (r : Round) → now ≤ end_of h → Agrees h read_only texts c → IsLoading kind h read_only now r → Agrees h read_only texts (after_records kind now c r).cache
  records_keep kind now c r le a w = by (eqb (length r.asked) 0) refl
    where
      by : (t : Bool) → eqb (length r.asked) 0 ≡ t → Agrees h read_only texts (cond t (leave_kind kind (with_records kind r.got (Some now) c) r) (stay (records_at kind now) c r)).cache
      by true e = kind_agrees kind _ c a (at_one kind r.got now le (loads_arrive kind (view_at kind h read_only now) r w (none_left r.asked e)))
      by false e = a

-- ---- where a round begins

-- the list with an index is there, or it is the list that there is by default, which has no state
had_list : (h : History) (texts : ℕ → MessageTexts) (ls : List ListView) (index s : ℕ) → AllByRecursion (ListAgrees h texts) ls → (unwrap_or (slice_get ls index) all_list).state ≡ Some s
    → Reaches h OfEmail s → (unwrap_or (slice_get ls index) all_list).ids ≡ result_list (query_of_list (unwrap_or (slice_get ls index) all_list)) (content_at h s) texts
had_list h texts [] index s all known reached = absurd (none-some s known)
had_list h texts (l ∷ ls) zero s all known reached = (all.0 s known).1 reached
had_list h texts (l ∷ ls) (suc i) s all known reached = had_list h texts ls i s all.1 known reached

pub new_caches_agree : NewCachesAgree
new_caches_agree h read_only texts = record { kinds = by; lists = (λ s e. absurd (none-some s e), tt) }
  where
    by : (kind : Kind) → KindAgrees kind h read_only (kind_of kind new_cached)
    by OfMailbox s e = absurd (none-some s e)
    by OfEmail s e = absurd (none-some s e)
    by OfThread s e = absurd (none-some s e)

pub sessions_keep : SessionsKeep
sessions_keep h read_only texts c r path account a = record { kinds = by; lists = a.lists }
  where
    by : (kind : Kind) → KindAgrees kind h read_only (kind_of kind (record c { account = account }))
    by OfMailbox = a.kinds OfMailbox
    by OfEmail = a.kinds OfEmail
    by OfThread = a.kinds OfThread

pub kinds_begin : KindsBegin
kinds_begin kind h read_only texts s c r a known = (
  ap (step_from kind) known,
  λ reached. record { kept = record { state = known; records = (a.kinds kind s known).1 reached }; way = starts_at_its_state kind (view_at kind h read_only s) (first_step kind c) r },
)

pub loads_begin : LoadsBegin
loads_begin kind list c r unknown = (ap (step_from kind) unknown, record { begins = refl; got = refl; dropped = refl })

pub lists_begin : ListsBegin
lists_begin h read_only texts index s l c a is known = (
  ap (list_step_of index) is ∙ ap (list_step_from index) known,
  λ reached. had_list h texts c.lists index s a.lists (ap (λ o. (unwrap_or o all_list).state) is ∙ known) reached,
)

-- ---- answers

state_le : (h : History) (kind : Kind) (upto : ℕ) → FloorsAtMost h.floors h.floor → h.floor ≤ upto → upto ≤ end_of h → state_at h kind upto ≤ end_of h
state_le h kind upto floors low within = let most = state_at-most h kind upto floors low in omega (arith, most, within)

-- a state that a reply of the end shows
shown_le : (h : History) (kind : Kind) (now shown : ℕ) → FloorsAtMost h.floors h.floor → shown ≡ state_of h kind → eqb now shown ≡ true → now ≤ end_of h
shown_le h kind now shown floors is e = subst (λ n. n ≤ end_of h) (sym (eqb-true now shown e ∙ is)) ((Reaches-state_of h kind floors).1)

pub changes_keep : ChangesKeep
changes_keep kind h read_only texts account since from c r t founded sound few reached a answered brought =
    let upto = page_end h kind (Some MAX_CHANGES) from in
    let later = (IsPage-page_end h kind (Some MAX_CHANGES) from reached.1).later in
    let low = past_floor h kind (Some MAX_CHANGES) from reached.1 in
    record {
      progress = by_page c r kind (page_read kind h from);
      is = changes_made kind h account from c r t founded sound few reached answered;
      so = by kind upto (not (eqb upto (end_of h))) (state_le h kind upto founded.floors low (IsPage-page_end h kind (Some MAX_CHANGES) from reached.1).within) (λ more. page_brings kind h read_only since from upto more c r later founded.floors low brought);
    }
  where
    by : (kind : Kind) (upto : ℕ) (more : Bool) → state_at h kind upto ≤ end_of h
        → ((b : Bool) → IsBrought kind h read_only since (state_at h kind upto) c (after_page kind (page_with (created h kind from upto) (destroyed h kind from upto) (updated h kind from upto) b (state_at h kind upto)) r))
        → Agrees h read_only texts (by_page c r kind (page_with (created h kind from upto) (destroyed h kind from upto) (updated h kind from upto) more (state_at h kind upto))).cache
    by kind upto true le brings = a
    by kind upto false le brings = changed_keeps h read_only texts kind since (state_at h kind upto) c _ le a (brings false)

pub gets_keep : GetsKeep
gets_keep kind h read_only texts account since now c r t founded few are once a answered brought =
    let read = read_get kind h read_only account r founded few are once in
    record {
      progress = by_changed c r kind now read.objects;
      is = get_made (by_changed c r kind now) kind h read_only account [] (next_asked r) t read answered;
      so =
          by read.objects (eqb now read.objects.state) refl (shown_le h kind now read.objects.state founded.floors read.state)
          (λ e. shows_at kind h read_only (next_asked r) read.objects now founded.floors (eqb-true now read.objects.state e ∙ read.state) read.shows);
    }
  where
    by : (o : Objects) (same : Bool) → eqb now o.state ≡ same → (eqb now o.state ≡ true → now ≤ end_of h) → (eqb now o.state ≡ true → ShowsAsked kind (view_at kind h read_only now) (next_asked r) o)
        → Agrees h read_only texts (cond same (after_changed kind now c (after_get kind o r)) (move_to now o.state c (record r { step = at_changes kind now }))).cache
    by o true e le shows =
        changed_keeps h read_only texts kind since now c _ (le e) a
        (record { kept = brought.kept; way = gets_lead_on kind (view_at kind h read_only since) (view_at kind h read_only now) o r (shows e) brought.way })
    by o false e le shows = a

-- after a get of a load, and what comes after one at another state
loaded : (kind : Kind) (h : History) (read_only : Bool) (texts : ℕ → MessageTexts) (now : ℕ) (again : Round) (c : Cached) (r : Round) (o : Objects) (same : Bool) → Agrees h read_only texts c
    → IsLoading kind h read_only now r → eqb now o.state ≡ same → (eqb now o.state ≡ true → now ≤ end_of h) → (eqb now o.state ≡ true → ShowsAsked kind (view_at kind h read_only now) (next_asked r) o)
    → Agrees h read_only texts (cond same (after_records kind now c (after_get kind o r)) (move_to now o.state c again)).cache
loaded kind h read_only texts now again c r o true a w e le shows = records_keep h read_only texts kind now c _ (le e) a (gets_lead_on kind no_view (view_at kind h read_only now) o r (shows e) w)
loaded kind h read_only texts now again c r o false a w e le shows = a

pub records_kept : RecordsKeep
records_kept kind h read_only texts account now c r t founded few are once a answered loading =
    let read = read_get kind h read_only account r founded few are once in
    record {
      progress = by_records c r kind now read.objects;
      is = get_made (by_records c r kind now) kind h read_only account [] (next_asked r) t read answered;
      so =
          loaded kind h read_only texts now (starting (load_of kind) r) c r read.objects (eqb now read.objects.state) a loading refl (shown_le h kind now read.objects.state founded.floors read.state)
          (λ e. shows_at kind h read_only (next_asked r) read.objects now founded.floors (eqb-true now read.objects.state e ∙ read.state) read.shows);
    }

pub threads_kept : ThreadsKeep
threads_kept h read_only texts account now c r t founded few are once a answered loading =
    let read = read_get OfThread h read_only account r founded few are once in
    record {
      progress = by_threads c r now read.objects;
      is = get_made (by_threads c r now) OfThread h read_only account [] (next_asked r) t read answered;
      so =
          loaded OfThread h read_only texts now (starting (first_step OfEmail c) r) c r read.objects (eqb now read.objects.state) a loading refl (shown_le h OfThread now read.objects.state founded.floors read.state)
          (λ e. shows_at OfThread h read_only (next_asked r) read.objects now founded.floors (eqb-true now read.objects.state e ∙ read.state) read.shows);
    }

pub loads_keep : LoadsKeep
loads_keep kind h read_only texts account state c r t has_one founded sound few small a answered pages =
    let list = result_list (query_of_all kind) (content_of h) texts in
    let now = state_of h kind in
    let read = loads_are_read kind h texts account [] (length r.results) has_one founded sound few small in
    record {
      progress = by_results c r kind state (results_with (part_from list MAX_RESULTS (length r.results)) now);
      is = results_made (by_results c r kind state) kind h texts account [] (results_arguments account (length r.results)) list (length r.results) t read answered;
      so =
          by list now (agrees state now) (is_full (part_from list MAX_RESULTS (length r.results))) ((Reaches-state_of h kind founded.floors).1) refl pages
          (λ short has_pages.
          asks_all kind h read_only now list (r.results ++ part_from list MAX_RESULTS (length r.results)) r has_pages.got has_pages.dropped
          (last_pages_complete list r.results has_pages.begins short) (names_all kind h texts has_one founded.floors));
    }
  where
    by : (list : List ℕ) (now : ℕ) (here full : Bool) → now ≤ end_of h → is_full (part_from list MAX_RESULTS (length r.results)) ≡ full → (here ≡ true → HasPages list r)
        → (is_full (part_from list MAX_RESULTS (length r.results)) ≡ false → HasPages list r
        → IsLoading kind h read_only now (ask_for (r.results ++ part_from list MAX_RESULTS (length r.results)) (after_results (results_with (part_from list MAX_RESULTS (length r.results)) now) r)))
        → Agrees h read_only texts
        (cond here
        (cond full (stay (at_results kind (Some now)) c (after_results (results_with (part_from list MAX_RESULTS (length r.results)) now) r))
        (after_records kind now c (ask_for (r.results ++ part_from list MAX_RESULTS (length r.results)) (after_results (results_with (part_from list MAX_RESULTS (length r.results)) now) r))))
        (move_to (unwrap_or state 0) now c (starting (at_results kind None) r))).cache
    by list now true true le e pages loads = a
    by list now true false le e pages loads = records_keep h read_only texts kind now c _ le a (loads e (pages refl))
    by list now false full le e pages loads = a

pub lists_keep : ListsKeep
lists_keep h read_only texts account index state c r t founded sound few known sorted small a answered pages =
    let l = list_at index c in
    let list = result_list (query_of_list l) (content_of h) texts in
    let now = state_of h OfEmail in
    let read = lists_are_read h texts account [] l (length r.results) founded sound few known sorted small in
    record {
      progress = by_list_results c r index state (results_with (part_from list MAX_RESULTS (length r.results)) now);
      is = results_made (by_list_results c r index state) OfEmail h texts account [] (list_results_arguments account l (length r.results)) list (length r.results) t read answered;
      so =
          by list now (agrees state now) (is_full (part_from list MAX_RESULTS (length r.results))) refl pages
          (λ short has_pages. list_kept h read_only texts index _ c founded.floors a (last_pages_complete list r.results has_pages.begins short));
    }
  where
    by : (list : List ℕ) (now : ℕ) (here full : Bool) → is_full (part_from list MAX_RESULTS (length r.results)) ≡ full → (here ≡ true → HasPages list r)
        → (is_full (part_from list MAX_RESULTS (length r.results)) ≡ false → HasPages list r
        → Agrees h read_only texts (with_results index (r.results ++ part_from list MAX_RESULTS (length r.results)) (Some now) c))
        → Agrees h read_only texts
        (cond here
        (cond full (stay (at_list_results index (Some now)) c (after_results (results_with (part_from list MAX_RESULTS (length r.results)) now) r))
        (leave_list index (r.results ++ part_from list MAX_RESULTS (length r.results)) now c (after_results (results_with (part_from list MAX_RESULTS (length r.results)) now) r)))
        (move_to (unwrap_or state 0) now c (starting (at_list_results index None) r))).cache
    by list now true true e pages keeps = a
    by list now true false e pages keeps = keeps e (pages refl)
    by list now false full e pages keeps = a

pub deltas_keep : DeltasKeep
deltas_keep h read_only texts account since index c r t founded sound few known sorted reached had a answered = record {
  progress = leave_list index (result_list (query_of_list (list_at index c)) (content_of h) texts) (state_of h OfEmail) c r;
  is = lists_are_brought h texts account since index c r t founded sound few known sorted reached (had_list h texts c.lists index since a.lists had reached) answered;
  so = list_kept h read_only texts index _ c founded.floors a refl;
}

pub errors_keep : ErrorsKeep
errors_keep h read_only texts c r at_session a = a
errors_keep h read_only texts c r (at_changes kind since) a = kind_reset h read_only texts kind c a
errors_keep h read_only texts c r (at_changed kind state) a = kind_reset h read_only texts kind c a
errors_keep h read_only texts c r (at_results kind state) a = kind_reset h read_only texts kind c a
errors_keep h read_only texts c r (at_records kind state) a = kind_reset h read_only texts kind c a
errors_keep h read_only texts c r at_thread_state a = kind_reset h read_only texts OfThread c a
errors_keep h read_only texts c r (at_email_state state) a = kind_reset h read_only texts OfThread c a
errors_keep h read_only texts c r (at_threads state) a = kind_reset h read_only texts OfThread c a
errors_keep h read_only texts c r (at_list_changes index since) a = list_reset h read_only texts index c a
errors_keep h read_only texts c r (at_list_results index state) a = list_reset h read_only texts index c a
errors_keep h read_only texts c r done a = a
