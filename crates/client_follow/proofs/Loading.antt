-- A round that loads a kind or a list.
use Rattle.std.proofs.Common.{◌≡◌, inl, inr, ℕ, List, [], ◌++◌, length, Bool, true, false, cond, eqb, eq-eqb, Some, None, refl, sym, ap, subst}
use Rattle.jm_base.specs.Splices.{has}
use Rattle.jm_base.specs.declared.identifiers.Kind.{Kind}
use Rattle.jm_base.specs.declared.identifiers.Kind.TheVariants.{Thread as OfThread}
use Rattle.mail_records.specs.Histories.{History}
use Rattle.change_calls.specs.Changes.{is_there}
use Rattle.reply_readers.specs.Results.{results_with}
use Rattle.client_cache.specs.Caches.{Cached, KindView}
use Rattle.client_cache.specs.Progress.{after_get, after_records, after_results, ask_for, leave_kind, leave_list, records_at, stay}
use Rattle.client_cache.specs.Records.{with_records}
use Rattle.client_cache.specs.Rounds.{Round, at_results, starting}
use Rattle.client_cache.specs.declared.limits.TheConstants.{MAX_RESULTS}
use Rattle.client_follow.specs.Holdings.{no_view}
use Rattle.client_follow.specs.Kinds.{IsLoading, LoadGoesOn}
use Rattle.client_follow.specs.Laws.{ListPages, LoadGets, LoadPages, ThreadGets}
use Rattle.client_follow.specs.Lists.{part_from}
use Rattle.client_follow.specs.Views.{AreExactly, view_at}
use Rattle.client_follow.proofs.Between.{gets_lead_on, loads_arrive, loads_start}
use Rattle.client_follow.proofs.Bringing.{kind_kept, none_left, restepped}
use Rattle.client_follow.proofs.Parts.{last_pages_complete, pages_follow}

records_go : (kind : Kind) (h : History) (read_only : Bool) (now : ℕ) (c : Cached) (r : Round) → IsLoading kind h read_only now r → LoadGoesOn kind h read_only now (after_records kind now c r)
records_go kind h read_only now c r w = by (eqb (length r.asked) 0) refl
  where
    by : (t : Bool) → eqb (length r.asked) 0 ≡ t → LoadGoesOn kind h read_only now (cond t (leave_kind kind (with_records kind r.got (Some now) c) r) (stay (records_at kind now) c r))
    by true e = inr (record {
      kept = record {
        state = ap (λ (k : KindView). k.state) (kind_kept kind _ c);
        records = subst (λ (k : KindView). AreExactly (view_at kind h read_only now) k.records) (sym (kind_kept kind _ c)) (loads_arrive kind (view_at kind h read_only now) r w (none_left r.asked e));
      };
      next = refl;
    })
    by false e = inl (record { step = refl; loading = restepped kind no_view (view_at kind h read_only now) r _ refl refl refl w })

pub load_gets : LoadGets
load_gets kind h read_only now c r o same shows w =
    rw (eq-eqb now o.state (sym same)) (records_go kind h read_only now c (after_get kind o r) (gets_lead_on kind no_view (view_at kind h read_only now) o r shows w))

pub thread_gets : ThreadGets
thread_gets h read_only now c r o same shows w =
    rw (eq-eqb now o.state (sym same)) (records_go OfThread h read_only now c (after_get OfThread o r) (gets_lead_on OfThread no_view (view_at OfThread h read_only now) o r shows w))

-- the round with all results, as what it asks for
pub asks_all : (kind : Kind) (h : History) (read_only : Bool) (now : ℕ) (list results : List ℕ) (r : Round) → r.got ≡ [] → r.dropped ≡ [] → results ≡ list
    → ((n : ℕ) → is_there h kind now n ≡ true → has list n ≡ true) → IsLoading kind h read_only now (record r { asked = results; results = results })
asks_all kind h read_only now list results r got dropped whole all =
    restepped kind no_view (view_at kind h read_only now) (ask_for list (starting (at_results kind None) r)) _ whole got dropped
    (loads_start kind h read_only now list (at_results kind None) r all)

pub load_pages : LoadPages
load_pages kind h read_only now list state c r agree has_pages = (
  λ full. rw (agree, full) (record {
    step = refl;
    pages = record { begins = pages_follow list r.results has_pages.begins; got = has_pages.got; dropped = has_pages.dropped };
  }),
  λ short all. rw (agree, short)
      (records_go kind h read_only now c _
      (asks_all kind h read_only now list (r.results ++ part_from list MAX_RESULTS (length r.results)) r has_pages.got has_pages.dropped (last_pages_complete list r.results has_pages.begins short) all)),
)

pub list_pages : ListPages
list_pages now index list state c r agree has_pages = (
  λ full. rw (agree, full) (record {
    step = refl;
    pages = record { begins = pages_follow list r.results has_pages.begins; got = has_pages.got; dropped = has_pages.dropped };
  }),
  λ short. rw (agree, short)
      (ap (λ ids. leave_list index ids now c (after_results (results_with (part_from list MAX_RESULTS (length r.results)) now) r))
      (last_pages_complete list r.results has_pages.begins short)),
)
