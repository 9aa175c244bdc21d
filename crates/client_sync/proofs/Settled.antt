-- Why a cache is not brought up to date: by the load, by the round, or by saving.
use Rattle.std.proofs.Common.{◌≡◌, inl, inr, ℕ, List, Option, Result, Err, IfErr, refl, subst}
use Rattle.jm_edge.specs.declared.answer.Asked.{Asked}
use Rattle.client_cache.specs.Caches.{Cached, cache_text}
use Rattle.client_cache.specs.Rounds.{new_round}
use Rattle.client_sync.specs.Faults.{Explains, ExplainsLoad, IsUnsettled}
use Rattle.client_sync.specs.Syncing.{Loads, Stops}
use Rattle.client_sync.specs.declared.fault.SyncFault.{SyncFault}
use Rattle.client_sync.specs.declared.fault.SyncFault.TheVariants.{BadCache, BadReply, ExchangeFault, Moved, NoMemory, ShelfFault, TooLong}

-- the load did not give a cache
pub explains_load : (told now : Option (List Asked)) (faults more : ℕ) (before after : Option (Option (List ℕ))) (loads more_loads : ℕ) (e : SyncFault) → now ≡ told → ExplainsLoad before after loads more_loads e → Explains told now faults more before after after e
explains_load told now faults more before after loads more_loads (BadReply place) same why = absurd why
explains_load told now faults more before after loads more_loads (Moved had shown) same why = absurd why
explains_load told now faults more before after loads more_loads TooLong same why = absurd why
explains_load told now faults more before after loads more_loads ExchangeFault same why = absurd why
explains_load told now faults more before after loads more_loads (BadCache place) same why = (why, same, refl)
explains_load told now faults more before after loads more_loads ShelfFault same why = inl (why.1, same, refl)
explains_load told now faults more before after loads more_loads NoMemory same why = inl (why, same, refl)

-- what the round and saving say, after a load
module _ {T : Type 0} (told now : Option (List Asked)) (faults more : ℕ) (before loaded_from after : Option (Option (List ℕ))) (c d : Cached) (saves more_saves : ℕ) (ended : Result T SyncFault) where
  ended_by : (e : SyncFault) → IfErr ended (Stops told now faults more c new_round d) → ended ≡ Err e → Stops told now faults more c new_round d e
  ended_by e stops is = subst (λ r. IfErr r (Stops told now faults more c new_round d)) is stops

  pub explains_round : (e : SyncFault) → Loads before loaded_from c → IfErr ended (Stops told now faults more c new_round d) → IsUnsettled loaded_from after saves more_saves (cache_text d) ended e → Explains told now faults more before loaded_from after e
  explains_round (BadReply place) load stops why =
      let s = ended_by (BadReply place) stops why.0 in
      ((d, record { loaded = c; asked = s.0; load = load; tells = s.1; ends = s.2 }), why.1)
  explains_round (Moved had shown) load stops why =
      let s = ended_by (Moved had shown) stops why.0 in
      (d, record { loaded = c; asked = s.0; load = load; tells = s.1; ends = s.2 }, why.1)
  explains_round TooLong load stops why =
      let s = ended_by TooLong stops why.0 in
      ((d, record { loaded = c; asked = s.0; load = load; tells = s.1; ends = s.2 }), why.1)
  explains_round ExchangeFault load stops why =
      let s = ended_by ExchangeFault stops why.0 in
      (s.0, record { loaded = c; asked = s.1; mid = d; at = s.2; load = load; tells = s.3; goes = s.4 }, why.1)
  explains_round (BadCache place) load stops why = absurd (ended_by (BadCache place) stops why.0)
  explains_round ShelfFault load stops why = inr ((c, load), why.1)
  explains_round NoMemory load stops why = inr ((c, load), why)
