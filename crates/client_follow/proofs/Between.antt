-- A round on the way from one state of a kind to another: pages, gets, and where it arrives.
use Rattle.std.proofs.Common.{◌≡◌, ℕ, ◌≤◌, ◌⊎◌, inl, inr, List, [], ◌++◌, map, take, drop, Bool, true, false, not, ◌&&◌, ◌||◌, cond, Option, Some, None, option_and_then, option_map, refl, sym, ap, ◌∙◌, subst, ⊎_elim, true≢false}
use Rattle.std.specs.Option.{option_or}
use Rattle.std.proofs.lemmas.Bool.{cases_Bool}
use Rattle.std.proofs.lemmas.List.{take-append-drop}
use Rattle.jm_base.specs.Splices.{has, without}
use Rattle.jm_base.specs.declared.identifiers.Kind.{Kind}
use Rattle.jm_base.specs.declared.identifiers.Kind.TheVariants.{Mailbox as OfMailbox, Email as OfEmail, Thread as OfThread}
use Rattle.jm_json.specs.Tree.{Tree}
use Rattle.jm_json.specs.Find.{find}
use Rattle.jm_json.specs.Order.{put_all}
use Rattle.mail_records.specs.Contents.{Content, SameRecords, email_at, mailbox_at, thread_at}
use Rattle.mail_records.specs.Histories.{FloorsAtMost, History, blobs_of, content_at}
use Rattle.mail_records.specs.States.{state_at}
use Rattle.mail_records.specs.declared.records.Email.{Email}
use Rattle.mail_records.specs.declared.records.Mailbox.{Mailbox}
use Rattle.mail_records.specs.declared.records.Thread.{Thread}
use Rattle.mail_records.proofs.Reached.{state_at-most, state_at-state_at}
use Rattle.mail_records.proofs.Settled.{SameRecords-same_state}
use Rattle.method_args.specs.Ids.{id_number}
use Rattle.change_calls.specs.Changes.{created, destroyed, is_there, updated}
use Rattle.change_calls.proofs.UpToDate.{BringsUpToDate-page}
use Rattle.get_args.specs.Wanted.{cached_wanted}
use Rattle.mail_view.specs.CachedViews.{view_named}
use Rattle.mail_view.specs.Emails.{email_view}
use Rattle.mail_view.specs.Mailboxes.{mailbox_view}
use Rattle.mail_view.specs.Threads.{thread_view}
use Rattle.reply_readers.specs.Objects.{Objects}
use Rattle.client_cache.specs.Caches.{Cached, KindView, kind_of}
use Rattle.client_cache.specs.Records.{by_id, in_order, records_but, under_id, with_kind}
use Rattle.client_cache.specs.Rounds.{Round}
use Rattle.client_cache.specs.declared.limits.TheConstants.{MAX_IDS}
use Rattle.client_cache.proofs.Kept.{rises_kept}
use Rattle.client_follow.specs.Holdings.{IsOnTheWay, ShowsAsked, names, no_view}
use Rattle.client_follow.specs.Laws.{ChangesArrive, GetsLeadOn, LoadsArrive, LoadsStart, PagesLeadOn, RecordsAreOne, StartsAtItsState, StatesDecide}
use Rattle.client_follow.specs.Views.{AreExactly, view_at}
use Rattle.client_follow.proofs.Finds.{find_but, find_puts, nothing_rises, puts_rise, records_same}
use Rattle.client_follow.proofs.Named.{names_append, names_nothing, names_ordered, names_without, view_absent, view_is, view_number}

abbrev View : Type 0
View = List ℕ → Option Tree

-- ---- maps

pub records_are_one : RecordsAreOne
records_are_one view records others a b = records_same records others a.rise b.rise (λ id. a.exactly id ∙ sym (b.exactly id))

same_view : (kind : Kind) (c d : Content) (blobs : List (List ℕ)) (read_only : Bool) (id : List ℕ) → SameRecords kind c d → view_named kind c blobs read_only id ≡ view_named kind d blobs read_only id
same_view OfMailbox c d blobs read_only id same = ap (λ (rows : List Mailbox). view_named OfMailbox (record d { mailboxes = rows }) blobs read_only id) same
same_view OfEmail c d blobs read_only id same = ap (λ (rows : List Email). view_named OfEmail (record d { emails = rows }) blobs read_only id) same
same_view OfThread c d blobs read_only id same = ap (λ (rows : List Thread). view_named OfThread (record d { threads = rows }) blobs read_only id) same

-- the records at a position are those at the state which the kind has there
pub same_records : (kind : Kind) (h : History) (k : ℕ) → FloorsAtMost h.floors h.floor → h.floor ≤ k → SameRecords kind (content_at h k) (content_at h (state_at h kind k))
same_records kind h k floors low =
    SameRecords-same_state h kind (state_at h kind k) k floors (state_at-most h kind k floors low) (state_at-state_at h kind k floors)

pub states_decide : StatesDecide
states_decide kind h read_only k id floors low =
    same_view kind (content_at h k) (content_at h (state_at h kind k)) (blobs_of h) read_only id (same_records kind h k floors low)

-- ---- what a page says of a record

untouched : {R : Type 0} (c u d : Bool) (is was : Option R) → cond d None (cond (c || u) is was) ≡ is → (c || (u || d)) ≡ false → is ≡ was
untouched true u d is was e fresh = absurd (true≢false fresh)
untouched false true d is was e fresh = absurd (true≢false fresh)
untouched false false true is was e fresh = absurd (true≢false fresh)
untouched false false false is was e fresh = sym e

destroyed_gone : {R : Type 0} (x d : Bool) (is was : Option R) → cond d None (cond x is was) ≡ is → d ≡ true → is ≡ None
destroyed_gone x true is was e listed = sym e
destroyed_gone x false is was e listed = absurd (true≢false (sym listed))

-- the page from one position to another
module _ (h : History) (read_only : Bool) (from upto : ℕ) (le : from ≤ upto) where
  number_untouched : (kind : Kind) (n : ℕ) → (has (created h kind from upto) n || (has (updated h kind from upto) n || has (destroyed h kind from upto) n)) ≡ false
      → view_number kind (content_at h upto) (blobs_of h) read_only n ≡ view_number kind (content_at h from) (blobs_of h) read_only n
  number_untouched OfMailbox n fresh =
      ap (option_map (mailbox_view read_only None))
      (untouched (has (created h OfMailbox from upto) n) (has (updated h OfMailbox from upto) n) (has (destroyed h OfMailbox from upto) n) (mailbox_at (content_at h upto) n) (mailbox_at (content_at h from) n) ((BringsUpToDate-page h from upto le).mailboxes n) fresh)
  number_untouched OfEmail n fresh =
      ap (option_map (email_view (blobs_of h) cached_wanted))
      (untouched (has (created h OfEmail from upto) n) (has (updated h OfEmail from upto) n) (has (destroyed h OfEmail from upto) n) (email_at (content_at h upto) n) (email_at (content_at h from) n) ((BringsUpToDate-page h from upto le).emails n) fresh)
  number_untouched OfThread n fresh =
      ap (option_map (thread_view None))
      (untouched (has (created h OfThread from upto) n) (has (updated h OfThread from upto) n) (has (destroyed h OfThread from upto) n) (thread_at (content_at h upto) n) (thread_at (content_at h from) n) ((BringsUpToDate-page h from upto le).threads n) fresh)

  number_gone : (kind : Kind) (n : ℕ) → has (destroyed h kind from upto) n ≡ true → view_number kind (content_at h upto) (blobs_of h) read_only n ≡ None
  number_gone OfMailbox n listed =
      ap (option_map (mailbox_view read_only None))
      (destroyed_gone (has (created h OfMailbox from upto) n || has (updated h OfMailbox from upto) n) (has (destroyed h OfMailbox from upto) n) (mailbox_at (content_at h upto) n) (mailbox_at (content_at h from) n) ((BringsUpToDate-page h from upto le).mailboxes n) listed)
  number_gone OfEmail n listed =
      ap (option_map (email_view (blobs_of h) cached_wanted))
      (destroyed_gone (has (created h OfEmail from upto) n || has (updated h OfEmail from upto) n) (has (destroyed h OfEmail from upto) n) (email_at (content_at h upto) n) (email_at (content_at h from) n) ((BringsUpToDate-page h from upto le).emails n) listed)
  number_gone OfThread n listed =
      ap (option_map (thread_view None))
      (destroyed_gone (has (created h OfThread from upto) n || has (updated h OfThread from upto) n) (has (destroyed h OfThread from upto) n) (thread_at (content_at h upto) n) (thread_at (content_at h from) n) ((BringsUpToDate-page h from upto le).threads n) listed)

  by_number : (kind : Kind) (id : List ℕ) (o : Option ℕ) → id_number kind id ≡ o
      → (names kind (created h kind from upto) id || (names kind (updated h kind from upto) id || names kind (destroyed h kind from upto) id)) ≡ false
      → option_and_then (view_number kind (content_at h upto) (blobs_of h) read_only) (id_number kind id) ≡ option_and_then (view_number kind (content_at h from) (blobs_of h) read_only) (id_number kind id)
  by_number kind id None e fresh = rw e refl
  by_number kind id (Some n) e fresh = rw e (number_untouched kind n (rw e at fresh))

  -- an id that the page does not name has the object that it had
  stays : (kind : Kind) (id : List ℕ)
      → (names kind (created h kind from upto) id || (names kind (updated h kind from upto) id || names kind (destroyed h kind from upto) id)) ≡ false
      → view_at kind h read_only upto id ≡ view_at kind h read_only from id
  stays kind id fresh =
      view_is kind (content_at h upto) (blobs_of h) read_only id ∙ (by_number kind id _ refl fresh ∙ sym (view_is kind (content_at h from) (blobs_of h) read_only id))

  gone_by_number : (kind : Kind) (id : List ℕ) (o : Option ℕ) → id_number kind id ≡ o → names kind (destroyed h kind from upto) id ≡ true
      → option_and_then (view_number kind (content_at h upto) (blobs_of h) read_only) (id_number kind id) ≡ None
  gone_by_number kind id None e listed = rw e refl
  gone_by_number kind id (Some n) e listed = rw e (number_gone kind n (rw e at listed))

  -- a destroyed one is not there
  is_gone : (kind : Kind) (id : List ℕ) → names kind (destroyed h kind from upto) id ≡ true → view_at kind h read_only upto id ≡ None
  is_gone kind id listed = view_is kind (content_at h upto) (blobs_of h) read_only id ∙ gone_by_number kind id _ refl listed

-- ---- a page

kept_of : {A : Type 0} (b : Bool) (o : Option A) (t : A) → cond b None o ≡ Some t → (b ≡ false) × (o ≡ Some t)
kept_of true o t e = let wrong = e in cc
kept_of false o t e = (refl, e)

none_of : {A : Type 0} (b : Bool) (o : Option A) → cond b None o ≡ None → b ≡ false → o ≡ None
none_of true o e fresh = absurd (true≢false fresh)
none_of false o e fresh = e

dropped_cases : (dr c u d : Bool) → ((dr && not (c || u)) || d) ≡ true → (d ≡ true) ⊎ ((dr ≡ true) × ((c || (u || d)) ≡ false))
dropped_cases dr c u true e = inl refl
dropped_cases false c u false e = absurd (true≢false (sym e))
dropped_cases true true u false e = absurd (true≢false (sym e))
dropped_cases true false true false e = absurd (true≢false (sym e))
dropped_cases true false false false e = inr (refl, refl)

rest_cases : (a c u d dr : Bool) → ((a || (c || u)) && not d) ≡ false → ((dr && not (c || u)) || d) ≡ false → (a ≡ false) × (((c || (u || d)) ≡ false) × (dr ≡ false))
rest_cases true c u false dr e f = absurd (true≢false e)
rest_cases false true u false dr e f = absurd (true≢false e)
rest_cases false false true false dr e f = absurd (true≢false e)
rest_cases false false false false true e f = absurd (true≢false f)
rest_cases false false false false false e f = (refl, (refl, refl))
rest_cases a c u true false e f = absurd (true≢false f)
rest_cases a true u true true e f = absurd (true≢false f)
rest_cases a false true true true e f = absurd (true≢false f)
rest_cases a false false true true e f = absurd (true≢false f)

-- a page that names these, from one map to another
module _ (kind : Kind) (before was now : View) (cs us ds : List ℕ) (r : Round)
    (stay : (id : List ℕ) → (names kind cs id || (names kind us id || names kind ds id)) ≡ false → now id ≡ was id)
    (go : (id : List ℕ) → names kind ds id ≡ true → now id ≡ None)
    (w : IsOnTheWay kind before was r) where
  all_named : (id : List ℕ) → names kind (cs ++ (us ++ ds)) id ≡ (names kind cs id || (names kind us id || names kind ds id))
  all_named id = names_append kind cs (us ++ ds) id ∙ ap (λ b. names kind cs id || b) (names_append kind us ds id)

  asked_named : (id : List ℕ) → names kind (in_order (without (r.asked ++ (cs ++ us)) ds)) id ≡ ((names kind r.asked id || (names kind cs id || names kind us id)) && not (names kind ds id))
  asked_named id =
      names_ordered kind (without (r.asked ++ (cs ++ us)) ds) id
      ∙ (names_without kind (r.asked ++ (cs ++ us)) ds id
      ∙ ap (λ b. b && not (names kind ds id)) (names_append kind r.asked (cs ++ us) id ∙ ap (λ b. names kind r.asked id || b) (names_append kind cs us id)))

  dropped_named : (id : List ℕ) → names kind (without r.dropped (cs ++ us) ++ ds) id ≡ ((names kind r.dropped id && not (names kind cs id || names kind us id)) || names kind ds id)
  dropped_named id =
      names_append kind (without r.dropped (cs ++ us)) ds id
      ∙ ap (λ b. b || names kind ds id) (names_without kind r.dropped (cs ++ us) id ∙ ap (λ b. names kind r.dropped id && not b) (names_append kind cs us id))

  page_got : (id : List ℕ) (t : Tree) → find id (records_but kind (cs ++ (us ++ ds)) r.got) ≡ Some t → now id ≡ Some t
  page_got id t e =
      let parts = kept_of (names kind (cs ++ (us ++ ds)) id) (find id r.got) t (sym (find_but kind (cs ++ (us ++ ds)) id r.got) ∙ e) in
      stay id (sym (all_named id) ∙ parts.0) ∙ w.got id t parts.1

  page_gone : (id : List ℕ) → names kind (without r.dropped (cs ++ us) ++ ds) id ≡ true → now id ≡ None
  page_gone id e =
      ⊎_elim
      (λ (d : names kind ds id ≡ true). go id d)
      (λ (p : (names kind r.dropped id ≡ true) × ((names kind cs id || (names kind us id || names kind ds id)) ≡ false)). stay id p.1 ∙ w.gone id p.0)
      (dropped_cases (names kind r.dropped id) (names kind cs id) (names kind us id) (names kind ds id) (sym (dropped_named id) ∙ e))

  page_rest : (id : List ℕ) → names kind (in_order (without (r.asked ++ (cs ++ us)) ds)) id ≡ false → find id (records_but kind (cs ++ (us ++ ds)) r.got) ≡ None
      → names kind (without r.dropped (cs ++ us) ++ ds) id ≡ false → before id ≡ now id
  page_rest id asked none dropped =
      let parts = rest_cases (names kind r.asked id) (names kind cs id) (names kind us id) (names kind ds id) (names kind r.dropped id) (sym (asked_named id) ∙ asked) (sym (dropped_named id) ∙ dropped) in
      let held = none_of (names kind (cs ++ (us ++ ds)) id) (find id r.got) (sym (find_but kind (cs ++ (us ++ ds)) id r.got) ∙ none) (all_named id ∙ parts.1.0) in
      w.rest id parts.0 held parts.1.1 ∙ sym (stay id parts.1.0)

pub pages_lead_on : PagesLeadOn
pages_lead_on kind h read_only before from upto more state r le w =
    let cs = created h kind from upto in
    let us = updated h kind from upto in
    let ds = destroyed h kind from upto in
    let was = view_at kind h read_only from in
    let now = view_at kind h read_only upto in
    let stay = stays h read_only from upto le kind in
    let go = is_gone h read_only from upto le kind in
    record {
      rise = rises_kept _ r.got w.rise;
      got = page_got kind before was now cs us ds r stay go w;
      gone = page_gone kind before was now cs us ds r stay go w;
      rest = page_rest kind before was now cs us ds r stay go w;
    }

-- ---- a get

either : {A : Type 0} (o p : Option A) (t : A) → option_or o p ≡ Some t → (o ≡ Some t) ⊎ (p ≡ Some t)
either None p t e = inr e
either (Some a) p t e = inl e

neither : {A : Type 0} (o p : Option A) → option_or o p ≡ None → (o ≡ None) × (p ≡ None)
neither None p e = (refl, e)
neither (Some a) p e = let wrong = e in cc

one_true : (a b : Bool) → (a || b) ≡ true → (a ≡ true) ⊎ (b ≡ true)
one_true true b e = inl refl
one_true false b e = inr e

both_false : (a b : Bool) → (a || b) ≡ false → (a ≡ false) × (b ≡ false)
both_false true b e = absurd (true≢false e)
both_false false b e = (refl, e)

module _ (kind : Kind) (before now : View) (o : Objects) (r : Round)
    (shows : ShowsAsked kind now (take MAX_IDS r.asked) o) (w : IsOnTheWay kind before now r) where
  found : (id : List ℕ) → find id (put_all (by_id kind o.objects) r.got) ≡ option_or (find id (by_id kind o.objects)) (find id r.got)
  found id = find_puts id (by_id kind o.objects) r.got (puts_rise (map (under_id kind) o.objects) [] nothing_rises)

  get_got : (id : List ℕ) (t : Tree) → find id (put_all (by_id kind o.objects) r.got) ≡ Some t → now id ≡ Some t
  get_got id t e =
      ⊎_elim (shows.objects id t) (w.got id t) (either (find id (by_id kind o.objects)) (find id r.got) t (sym (found id) ∙ e))

  get_gone : (id : List ℕ) → names kind (r.dropped ++ o.unknown) id ≡ true → now id ≡ None
  get_gone id e =
      ⊎_elim (w.gone id) (shows.unknown id) (one_true (names kind r.dropped id) (names kind o.unknown id) (sym (names_append kind r.dropped o.unknown id) ∙ e))

  not_now : (id : List ℕ) → find id (by_id kind o.objects) ≡ None → names kind o.unknown id ≡ false → names kind (take MAX_IDS r.asked) id ≡ false
  not_now id none known =
      ⊎_elim
      (λ (t : names kind (take MAX_IDS r.asked) id ≡ true). absurd (true≢false (sym (shows.all id t none) ∙ known)))
      (λ (f : names kind (take MAX_IDS r.asked) id ≡ false). f)
      (cases_Bool (names kind (take MAX_IDS r.asked) id))

  asked_none : (id : List ℕ) → names kind (take MAX_IDS r.asked) id ≡ false → names kind (drop MAX_IDS r.asked) id ≡ false → names kind r.asked id ≡ false
  asked_none id first later =
      ap (λ xs. names kind xs id) (sym (take-append-drop MAX_IDS r.asked))
      ∙ (names_append kind (take MAX_IDS r.asked) (drop MAX_IDS r.asked) id
      ∙ (ap (λ b. b || names kind (drop MAX_IDS r.asked) id) first ∙ later))

  get_rest : (id : List ℕ) → names kind (drop MAX_IDS r.asked) id ≡ false → find id (put_all (by_id kind o.objects) r.got) ≡ None → names kind (r.dropped ++ o.unknown) id ≡ false → before id ≡ now id
  get_rest id later none known =
      let held = neither (find id (by_id kind o.objects)) (find id r.got) (sym (found id) ∙ none) in
      let away = both_false (names kind r.dropped id) (names kind o.unknown id) (sym (names_append kind r.dropped o.unknown id) ∙ known) in
      w.rest id (asked_none id (not_now id held.0 away.1) later) held.1 away.0

pub gets_lead_on : GetsLeadOn
gets_lead_on kind before now o r shows w = record {
  rise = puts_rise (by_id kind o.objects) r.got w.rise;
  got = get_got kind before now o r shows w;
  gone = get_gone kind before now o r shows w;
  rest = get_rest kind before now o r shows w;
}

-- ---- where it starts and arrives

pub starts_at_its_state : StartsAtItsState
starts_at_its_state kind view step r = record {
  rise = nothing_rises;
  got = λ id t e. nothing_found t e;
  gone = λ id e. absurd (true≢false (sym e ∙ names_nothing kind id));
  rest = λ id asked none dropped. refl;
}
  where
    nothing_found : {A : Type 0} (t : Tree) → None ≡ Some t → A
    nothing_found t e = let wrong = e in cc

put_now : (kind : Kind) (before now : View) (r : Round) (old : List (List ℕ × Tree)) (id : List ℕ) → IsOnTheWay kind before now r → r.asked ≡ [] → find id old ≡ before id
    → (o : Option Tree) → find id r.got ≡ o → (b : Bool) → names kind r.dropped id ≡ b → option_or o (cond b None (find id old)) ≡ now id
put_now kind before now r old id w done had (Some t) e b f = sym (w.got id t e)
put_now kind before now r old id w done had None e true f = sym (w.gone id f)
put_now kind before now r old id w done had None e false f = had ∙ w.rest id (ap (λ xs. names kind xs id) done ∙ names_nothing kind id) e f

arrives : (kind : Kind) (before now : View) (r : Round) (old : List (List ℕ × Tree)) → IsOnTheWay kind before now r → r.asked ≡ [] → AreExactly before old
    → AreExactly now (put_all r.got (records_but kind r.dropped old))
arrives kind before now r old w done had = record {
  rise = puts_rise r.got (records_but kind r.dropped old) (rises_kept _ old had.rise);
  exactly = λ id. find_puts id r.got (records_but kind r.dropped old) w.rise
      ∙ (ap (option_or (find id r.got)) (find_but kind r.dropped id old)
      ∙ put_now kind before now r old id w done (had.exactly id) _ refl _ refl);
}

kind_kept : (kind : Kind) (k : KindView) (c : Cached) → kind_of kind (with_kind kind k c) ≡ k
kind_kept OfMailbox k c = refl
kind_kept OfEmail k c = refl
kind_kept OfThread k c = refl

pub changes_arrive : ChangesArrive
changes_arrive kind before now state c r w done had =
    subst (λ (k : KindView). AreExactly now k.records) (sym (kind_kept kind _ c)) (arrives kind before now r (kind_of kind c).records w done had)

load_now : (kind : Kind) (now : View) (r : Round) (id : List ℕ) → IsOnTheWay kind no_view now r → r.asked ≡ []
    → (o : Option Tree) → find id r.got ≡ o → (b : Bool) → names kind r.dropped id ≡ b → o ≡ now id
load_now kind now r id w done (Some t) e b f = sym (w.got id t e)
load_now kind now r id w done None e true f = sym (w.gone id f)
load_now kind now r id w done None e false f = w.rest id (ap (λ xs. names kind xs id) done ∙ names_nothing kind id) e f

pub loads_arrive : LoadsArrive
loads_arrive kind now r w done = record { rise = w.rise; exactly = λ id. load_now kind now r id w done _ refl _ refl }

not_there : (a b : Bool) → (a ≡ true → b ≡ true) → b ≡ false → a ≡ false
not_there true b f e = absurd (true≢false (sym (f refl) ∙ e))
not_there false b f e = refl

load_none : (kind : Kind) (h : History) (read_only : Bool) (k : ℕ) (numbers id : List ℕ) → ((n : ℕ) → is_there h kind k n ≡ true → has numbers n ≡ true)
    → (o : Option ℕ) → id_number kind id ≡ o → names kind numbers id ≡ false → option_and_then (view_number kind (content_at h k) (blobs_of h) read_only) (id_number kind id) ≡ None
load_none kind h read_only k numbers id all None e fresh = rw e refl
load_none kind h read_only k numbers id all (Some n) e fresh =
    rw e (view_absent kind (content_at h k) (blobs_of h) read_only n (not_there (is_there h kind k n) (has numbers n) (all n) (rw e at fresh)))

pub loads_start : LoadsStart
loads_start kind h read_only k numbers step r all = record {
  rise = nothing_rises;
  got = λ id t e. nothing_found t e;
  gone = λ id e. absurd (true≢false (sym e ∙ names_nothing kind id));
  rest = λ id asked none dropped. sym (view_is kind (content_at h k) (blobs_of h) read_only id ∙ load_none kind h read_only k numbers id all _ refl asked);
}
  where
    nothing_found : {A : Type 0} (t : Tree) → None ≡ Some t → A
    nothing_found t e = let wrong = e in cc
