-- What an answer makes of a round.
use Rattle.std.proofs.Common.{◌≡◌, ℕ, ◌-◌, ◌<◌, List, [], length, Bool, true, false, not, eqb, eqb-true, Option, Some, None, is_some, option_map, refl, sym, ap, ◌∙◌, subst, arith, map}
use Rattle.std.proofs.lemmas.List.{take_all}
use Rattle.std.proofs.lemmas.Option.{same_Some}
use Rattle.jm_base.specs.Splices.{has}
use Rattle.jm_base.specs.declared.identifiers.Kind.{Kind}
use Rattle.jm_base.specs.declared.identifiers.Kind.TheVariants.{Mailbox as OfMailbox, Email as OfEmail, Thread as OfThread}
use Rattle.jm_base.specs.declared.identifiers.TheConstants.{NUMBER_LIMIT}
use Rattle.jm_json.specs.Tree.{Tree}
use Rattle.mail_records.specs.Contents.{Content, SameRecords, email_number, is_present, mailbox_number, thread_number}
use Rattle.mail_records.specs.Edits.{after_edits}
use Rattle.mail_records.specs.Histories.{FloorsAtMost, History, IsFounded, IsSound, blobs_of, content_at, content_of, edits_of, end_of}
use Rattle.mail_records.specs.States.{Reaches, state_at, state_of}
use Rattle.mail_records.specs.Tables.{lookup}
use Rattle.mail_records.proofs.Reached.{Reaches-state_of, state_at-end}
use Rattle.mail_view.specs.CachedViews.{client_get, view_named}
use Rattle.mail_view.specs.Gets.{Got, get_of_kind, got}
use Rattle.method_args.specs.WrittenIds.{AreIds}
use Rattle.change_calls.specs.Changes.{created, destroyed, is_there, page_end, updated}
use Rattle.change_calls.proofs.Exact.{IsPage-page_end, past_floor}
use Rattle.change_calls.specs.Responses.{changes_outcome}
use Rattle.filter_terms.specs.Texts.{MessageTexts}
use Rattle.query_engine.specs.Queries.{result_list}
use Rattle.query_engine.specs.Responses.{query_outcome}
use Rattle.reply_readers.specs.Objects.{Objects, objects_in}
use Rattle.reply_readers.specs.ObjectsBack.{IsDistinct}
use Rattle.reply_readers.specs.Pages.{page_in, page_with}
use Rattle.reply_readers.specs.Results.{results_in, results_with}
use Rattle.reply_readers.specs.declared.pages.ReadPage.{ReadPage}
use Rattle.reply_readers.specs.declared.results.ReadResults.{ReadResults}
use Rattle.client_cache.specs.Caches.{Cached}
use Rattle.client_cache.specs.Progress.{by_arguments, by_changed, by_list_results, by_page, by_records, by_results, by_threads}
use Rattle.client_cache.specs.Requests.{changes_arguments, id_of, list_at, list_results_arguments, next_asked, results_arguments}
use Rattle.client_cache.specs.Rounds.{Round, at_changed, at_changes}
use Rattle.client_cache.specs.declared.limits.TheConstants.{MAX_CHANGES, MAX_IDS, MAX_RESULTS}
use Rattle.client_follow.specs.Results.{AreResultsRead}
use Rattle.method_args.specs.Outcomes.{replied}
use Rattle.client_follow.specs.Answers.{ChangesAnswered, GetsAnswered, ListsAnswered, LoadsAnswered, RecordsAnswered, ThreadsAnswered}
use Rattle.client_follow.specs.Gets.{IsRead}
use Rattle.client_follow.specs.Holdings.{ShowsAsked}
use Rattle.client_follow.specs.Kinds.{GoesOn}
use Rattle.client_follow.specs.Lists.{has_query, part_from, query_of_all, query_of_list}
use Rattle.client_follow.specs.Views.{view_at}
use Rattle.client_follow.proofs.Between.{same_records, states_decide}
use Rattle.client_follow.proofs.Bringing.{kind_gets, kind_moves, kind_pages}
use Rattle.client_follow.proofs.DeltasRead.{replied_tree}
use Rattle.client_follow.proofs.Gets.{gets_are_read}
use Rattle.client_follow.proofs.Loading.{list_pages, load_gets, load_pages, thread_gets}
use Rattle.client_follow.proofs.LoadsRead.{loads_are_read, loads_name_all}
use Rattle.client_follow.proofs.Pages.{pages_are_read}
use Rattle.client_follow.proofs.Results.{few_taken, lists_are_read}

-- ---- the end of a history

pub content_end : (h : History) → content_at h (end_of h) ≡ content_of h
content_end h = ap (after_edits h.base) (take_all (end_of h - h.floor) (edits_of h) (omega arith))

-- what the end has is what the state has
view_end : (kind : Kind) (h : History) (read_only : Bool) (id : List ℕ) → FloorsAtMost h.floors h.floor
    → view_named kind (content_of h) (blobs_of h) read_only id ≡ view_at kind h read_only (state_of h kind) id
view_end kind h read_only id floors =
    ap (λ (c : Content). view_named kind c (blobs_of h) read_only id) (sym (content_end h))
    ∙ states_decide kind h read_only (end_of h) id floors (omega arith)
    ∙ ap (λ s. view_at kind h read_only s id) (state_at-end h kind)

same_presence : (kind : Kind) (c d : Content) (n : ℕ) → SameRecords kind c d → is_present c kind n ≡ is_present d kind n
same_presence OfMailbox c d n same = ap (λ rows. is_some (lookup mailbox_number n rows)) same
same_presence OfEmail c d n same = ap (λ rows. is_some (lookup email_number n rows)) same
same_presence OfThread c d n same = ap (λ rows. is_some (lookup thread_number n rows)) same

there_end : (kind : Kind) (h : History) (n : ℕ) → FloorsAtMost h.floors h.floor → is_there h kind (end_of h) n ≡ is_there h kind (state_of h kind) n
there_end kind h n floors =
    same_presence kind (content_at h (end_of h)) (content_at h (state_at h kind (end_of h))) n (same_records kind h (end_of h) floors (omega arith))
    ∙ ap (λ s. is_there h kind s n) (state_at-end h kind)

-- ---- changes

abbrev pub page_read : Kind → History → ℕ → ReadPage
page_read kind h from =
    let upto = page_end h kind (Some MAX_CHANGES) from in
    page_with (created h kind from upto) (destroyed h kind from upto) (updated h kind from upto) (not (eqb upto (end_of h))) (state_at h kind upto)

pub changes_made : (kind : Kind) (h : History) (account : List ℕ) (from : ℕ) (c : Cached) (r : Round) (t : Tree) → IsFounded h → IsSound h → end_of h < NUMBER_LIMIT → Reaches h kind from
    → changes_outcome h kind (changes_arguments account from) ≡ replied t → by_arguments c r (at_changes kind from) t ≡ Some (by_page c r kind (page_read kind h from))
changes_made kind h account from c r t founded sound few reached answered =
    let read = pages_are_read kind h account [] from founded sound few reached in
    let same : t ≡ read.tree = same_Some t read.tree (ap replied_tree (sym answered ∙ read.answer)) in
    ap (λ t. option_map (by_page c r kind) (page_in kind t)) same ∙ ap (option_map (by_page c r kind)) read.read

pub changes_answered : ChangesAnswered
changes_answered kind h read_only account since from c r t founded sound few reached answered brought =
    let upto = page_end h kind (Some MAX_CHANGES) from in
    let later = (IsPage-page_end h kind (Some MAX_CHANGES) from reached.1).later in
    let pages = kind_pages kind h read_only since from upto c r later founded.floors (past_floor h kind (Some MAX_CHANGES) from reached.1) brought in
    record {
      progress = by_page c r kind (page_read kind h from);
      is = changes_made kind h account from c r t founded sound few reached answered;
      so = (
        λ more. rw more pages.0,
        λ last. rw last
            (subst
            (λ s. GoesOn kind h read_only since s (at_changed kind s)
            (by_page c r kind (page_with (created h kind from upto) (destroyed h kind from upto) (updated h kind from upto) false (state_at h kind upto))))
            (ap (state_at h kind) (eqb-true upto (end_of h) last) ∙ state_at-end h kind) pages.1),
      );
    }

-- ---- gets

abbrev pub got_tree : Got → Option Tree
got_tree (got t) = Some t
got_tree other = None

shows_same : (kind : Kind) (was now : List ℕ → Option Tree) (asked : List ℕ) (o : Objects) → ((id : List ℕ) → was id ≡ now id) → ShowsAsked kind was asked o → ShowsAsked kind now asked o
shows_same kind was now asked o same shows = record {
  objects = λ id t e. sym (same id) ∙ shows.objects id t e;
  unknown = λ id e. sym (same id) ∙ shows.unknown id e;
  all = shows.all;
}

pub read_get : (kind : Kind) (h : History) (read_only : Bool) (account : List ℕ) (r : Round) → IsFounded h → end_of h < NUMBER_LIMIT → AreIds kind (next_asked r) → IsDistinct (next_asked r)
    → IsRead kind h read_only account [] (next_asked r)
read_get kind h read_only account r founded few are once =
    let fits = (Reaches-state_of h kind founded.floors).1 in
    gets_are_read kind h read_only account [] (next_asked r) are once (few_taken MAX_IDS r.asked) (omega (arith, fits, few))

pub shows_at : (kind : Kind) (h : History) (read_only : Bool) (asked : List ℕ) (o : Objects) (now : ℕ) → FloorsAtMost h.floors h.floor → now ≡ state_of h kind
    → ShowsAsked kind (view_named kind (content_of h) (blobs_of h) read_only) asked o → ShowsAsked kind (view_at kind h read_only now) asked o
shows_at kind h read_only asked o now floors at shows =
    shows_same kind _ _ asked o (λ id. view_end kind h read_only id floors ∙ ap (λ s. view_at kind h read_only s id) (sym at)) shows

-- a state that is not that of the end is not the one that is read
pub not_shown : (now state shown : ℕ) → shown ≡ state → eqb now state ≡ false → eqb now shown ≡ false
not_shown now state shown same other = ap (eqb now) same ∙ other

pub get_made : {A : Type 0} (f : Objects → A) (kind : Kind) (h : History) (read_only : Bool) (account pointer asked : List ℕ) (t : Tree) (read : IsRead kind h read_only account pointer asked)
    → get_of_kind kind h (client_get kind account (map (id_of kind) asked)) read_only ≡ got t → option_map f (objects_in kind t) ≡ Some (f read.objects)
get_made f kind h read_only account pointer asked t read answered =
    let same : t ≡ read.tree = same_Some t read.tree (ap got_tree (sym answered ∙ read.answer)) in
    ap (λ t. option_map f (objects_in kind t)) same ∙ ap (option_map f) read.read

pub gets_answered : GetsAnswered
gets_answered kind h read_only account since now c r t founded few are once answered brought =
    let read = read_get kind h read_only account r founded few are once in
    record {
      progress = by_changed c r kind now read.objects;
      is = get_made (by_changed c r kind now) kind h read_only account [] (next_asked r) t read answered;
      so = (
        λ here.
            let at : now ≡ state_of h kind = eqb-true now (state_of h kind) here in
            kind_gets kind h read_only since now c r read.objects (read.state ∙ sym at) (shows_at kind h read_only (next_asked r) read.objects now founded.floors at read.shows) brought,
        λ other. kind_moves kind h read_only since now c r read.objects (not_shown now (state_of h kind) read.objects.state read.state other) brought,
      );
    }

pub records_answered : RecordsAnswered
records_answered kind h read_only account now c r t founded few are once answered loading =
    let read = read_get kind h read_only account r founded few are once in
    record {
      progress = by_records c r kind now read.objects;
      is = get_made (by_records c r kind now) kind h read_only account [] (next_asked r) t read answered;
      so = (
        λ here.
            let at : now ≡ state_of h kind = eqb-true now (state_of h kind) here in
            load_gets kind h read_only now c r read.objects (read.state ∙ sym at) (shows_at kind h read_only (next_asked r) read.objects now founded.floors at read.shows) loading,
        λ other. rw (not_shown now (state_of h kind) read.objects.state read.state other)
            (record { step = refl; cache = refl; asked = refl; got = refl; dropped = refl; results = refl }),
      );
    }

pub threads_answered : ThreadsAnswered
threads_answered h read_only account now c r t founded few are once answered loading =
    let read = read_get OfThread h read_only account r founded few are once in
    record {
      progress = by_threads c r now read.objects;
      is = get_made (by_threads c r now) OfThread h read_only account [] (next_asked r) t read answered;
      so = (
        λ here.
            let at : now ≡ state_of h OfThread = eqb-true now (state_of h OfThread) here in
            thread_gets h read_only now c r read.objects (read.state ∙ sym at) (shows_at OfThread h read_only (next_asked r) read.objects now founded.floors at read.shows) loading,
        λ other. rw (not_shown now (state_of h OfThread) read.objects.state read.state other)
            (record { step = refl; cache = refl; asked = refl; got = refl; dropped = refl; results = refl }),
      );
    }

-- ---- results

pub names_all : (kind : Kind) (h : History) (texts : ℕ → MessageTexts) → has_query kind ≡ true → FloorsAtMost h.floors h.floor
    → (n : ℕ) → is_there h kind (state_of h kind) n ≡ true → has (result_list (query_of_all kind) (content_of h) texts) n ≡ true
names_all kind h texts has_one floors n there =
    ap (λ c. has (result_list (query_of_all kind) c texts) n) (sym (content_end h)) ∙ loads_name_all kind h texts (end_of h) n has_one ∙ there_end kind h n floors ∙ there

pub results_made : {A : Type 0} (f : ReadResults → A) (kind : Kind) (h : History) (texts : ℕ → MessageTexts) (account pointer : List ℕ) (args : Tree) (list : List ℕ) (position : ℕ) (t : Tree)
    → AreResultsRead kind h texts account pointer args list position → query_outcome kind (state_of h kind) (content_of h) texts args ≡ replied t
    → option_map f (results_in kind t) ≡ Some (f (results_with (part_from list MAX_RESULTS position) (state_of h kind)))
results_made f kind h texts account pointer args list position t read answered =
    let same : t ≡ read.tree = same_Some t read.tree (ap replied_tree (sym answered ∙ read.answer)) in
    ap (λ t. option_map f (results_in kind t)) same ∙ ap (option_map f) read.read

pub loads_answered : LoadsAnswered
loads_answered kind h read_only texts account state c r t has_one founded sound few small answered =
    let list = result_list (query_of_all kind) (content_of h) texts in
    let now = state_of h kind in
    let read = loads_are_read kind h texts account [] (length r.results) has_one founded sound few small in
    let all = names_all kind h texts has_one founded.floors in
    record {
      progress = by_results c r kind state (results_with (part_from list MAX_RESULTS (length r.results)) now);
      is = results_made (by_results c r kind state) kind h texts account [] (results_arguments account (length r.results)) list (length r.results) t read answered;
      so = (
        λ here pages.
            let by = load_pages kind h read_only now list state c r here pages in
            (by.0, λ short. by.1 short all),
        λ other. rw other (record { step = refl; cache = refl; asked = refl; got = refl; dropped = refl; results = refl }),
      );
    }

pub lists_answered : ListsAnswered
lists_answered h texts account index state c r t founded sound few known sorted small answered =
    let l = list_at index c in
    let list = result_list (query_of_list l) (content_of h) texts in
    let now = state_of h OfEmail in
    let read = lists_are_read h texts account [] l (length r.results) founded sound few known sorted small in
    record {
      progress = by_list_results c r index state (results_with (part_from list MAX_RESULTS (length r.results)) now);
      is = results_made (by_list_results c r index state) OfEmail h texts account [] (list_results_arguments account l (length r.results)) list (length r.results) t read answered;
      so = (
        λ here pages.
            let by = list_pages now index list state c r here pages in
            (by.0, λ short. rw (by.1 short) (record { step = refl; cache = refl; asked = refl; got = refl; dropped = refl; results = refl })),
        λ other. rw other (record { step = refl; cache = refl; asked = refl; got = refl; dropped = refl; results = refl }),
      );
    }
