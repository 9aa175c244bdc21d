-- One request more of a round.
use Rattle.std.proofs.Common.{◌≡◌, ℕ, List, [], ◌∷◌, ◌++◌, append_assoc, append-nil, Option, Some, None, refl, sym, ap, ◌∙◌, subst}
use Rattle.jm_edge.specs.Causes.{Rose}
use Rattle.jm_edge.specs.Exchanges.{told_with}
use Rattle.jm_edge.specs.declared.answer.Asked.{Asked}
use Rattle.client_cache.specs.Caches.{Cached}
use Rattle.client_cache.specs.Rounds.{Round}
use Rattle.client_sync.specs.Syncing.{ByFault, EndsAt, Goes, Steps, Stops, StopsAt, told_all}
use Rattle.client_sync.specs.declared.fault.SyncFault.{SyncFault}
use Rattle.client_sync.specs.declared.fault.SyncFault.TheVariants.{BadCache, BadReply, ExchangeFault, Moved, NoMemory, ShelfFault, TooLong}

pub goes_on : (c : Cached) (r : Round) (asked : List Asked) (d : Cached) (s : Round) (a : Asked) (e : Cached) (q : Round) → Goes c r asked d s → Steps d s a e q → Goes c r (asked ++ a ∷ []) e q
goes_on c r [] d s a e q go step = (e, q, subst (λ x. Steps c x a e q) go.1 (subst (λ x. Steps x s a e q) go.0 step), (refl, refl))
goes_on c r (b ∷ bs) d s a e q go step = (go.0, go.1, go.2, goes_on go.0 go.1 bs d s a e q go.3 step)

pub told_none : (t : Option (List Asked)) → t ≡ told_all t []
told_none None = refl
told_none (Some ts) = ap Some (sym (append-nil ts))

pub told_more : (t : Option (List Asked)) (asked : List Asked) (a : Asked) → told_with (told_all t asked) a ≡ told_all t (asked ++ a ∷ [])
told_more None asked a = refl
told_more (Some ts) asked a = ap Some (append_assoc ts asked (a ∷ []))

by_lift : {A B F G : Type 0} (e : SyncFault) → (A → B) → (F → G) → ByFault A F e → ByFault B G e
by_lift (BadReply place) f g x = f x
by_lift (Moved had shown) f g x = f x
by_lift TooLong f g x = f x
by_lift ExchangeFault f g x = g x
by_lift (BadCache place) f g x = x
by_lift ShelfFault f g x = x
by_lift NoMemory f g x = tt

-- what ended the round at its next request ended it
pub stops_later : (told mid now : Option (List Asked)) (faults between more : ℕ) (c : Cached) (r : Round) (asked : List Asked) (d : Cached) (s : Round) (f : Cached) (e : SyncFault)
    → mid ≡ told_all told asked → between ≡ faults → Goes c r asked d s → StopsAt mid now between more d s f e → Stops told now faults more c r f e
stops_later told mid now faults between more c r asked d s f e here same go at =
    by_lift e
    (λ (x : (a : Asked) × (now ≡ told_with mid a) × EndsAt d s a f e). (
      asked ++ x.0 ∷ [],
      x.1 ∙ ap (λ t. told_with t x.0) here ∙ told_more told asked x.0,
      record {
        before = asked;
        last = x.0;
        mid = d;
        at = s;
        after = x.2.after;
        are = refl;
        goes = go;
        next = x.2.next;
        refused = x.2.refused;
      },
    ))
    (λ (x : Rose between more × (now ≡ mid) × (f ≡ d)). (
      subst (λ n. Rose n more) same x.0,
      asked,
      s,
      x.1 ∙ here,
      subst (λ y. Goes c r asked y s) (sym x.2) go,
    ))
    at
