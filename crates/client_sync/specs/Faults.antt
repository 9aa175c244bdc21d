-- Why a cache is not loaded, or not brought up to date.
use Rattle.std.specs.Prelude.{◌≡◌, ◌⊎◌, ℕ, List, Option, Some, None, Result, Err, ⊤}
use Rattle.jm_edge.specs.Causes.{Rose}
use Rattle.jm_edge.specs.Contents.{IsUnknownOr}
use Rattle.jm_edge.specs.declared.answer.Asked.{Asked}
use Rattle.jm_json.specs.LeastPlaces.{least_from}
use Rattle.client_cache.specs.CacheForms.{text_places}
use Rattle.client_cache.specs.Caches.{Cached, cache_text}
use Rattle.client_cache.specs.Rounds.{Round, new_round}
use Rattle.client_sync.specs.Syncing.{Ends, Goes, IsLoaded, Loads, told_all}
use Rattle.client_sync.specs.declared.fault.SyncFault.{SyncFault}
use Rattle.client_sync.specs.declared.fault.SyncFault.TheVariants.{BadCache, BadReply, ExchangeFault, Moved, NoMemory, ShelfFault, TooLong}

-- ---- a cache that is not loaded

-- the place is the least at which the content is not of its form
abbrev pub IsBadPlace : Option (List ℕ) → List ℕ → Type 0
IsBadPlace None place = ⊥
IsBadPlace (Some bytes) place = least_from None (text_places bytes) ≡ Some place

-- what was kept before, after it was loaded, and where that is not of its form
pub record LoadsBad (before loaded_from : Option (Option (List ℕ))) (place : List ℕ) : Type 0 where
  pub content : Option (List ℕ)
  pub load : IsLoaded before loaded_from content
  pub bad : IsBadPlace content place

-- what was kept before, and after a load that failed or gave some content
abbrev pub LoadsAtMost : Option (Option (List ℕ)) → Option (Option (List ℕ)) → Type 0
LoadsAtMost before loaded_from =
    IsUnknownOr before loaded_from
    ⊎ ((content : Option (List ℕ)) × IsLoaded before loaded_from content)

-- Why a cache is not loaded. The count of faults of loading was the first number and is the second.
-- After a fault of the shelf, what is kept is unknown or as it was.
abbrev pub ExplainsLoad
    : Option (Option (List ℕ)) → Option (Option (List ℕ)) → ℕ → ℕ → SyncFault → Type 0
ExplainsLoad before loaded_from faults more (BadCache place) = LoadsBad before loaded_from place
ExplainsLoad before loaded_from faults more ShelfFault =
    Rose faults more × IsUnknownOr before loaded_from
ExplainsLoad before loaded_from faults more (BadReply place) = ⊥
ExplainsLoad before loaded_from faults more (Moved had shown) = ⊥
ExplainsLoad before loaded_from faults more TooLong = ⊥
ExplainsLoad before loaded_from faults more ExchangeFault = ⊥
ExplainsLoad before loaded_from faults more NoMemory = LoadsAtMost before loaded_from

-- ---- a cache that is not brought up to date

-- An answer ended the round of the cache that was loaded, after which the cache is this one.
pub record Ended (told now : Option (List Asked)) (before loaded_from : Option (Option (List ℕ)))
    (d : Cached) (e : SyncFault) : Type 0 where
  pub loaded : Cached
  pub asked : List Asked
  pub load : Loads before loaded_from loaded
  pub tells : now ≡ told_all told asked
  pub ends : Ends loaded new_round asked d e

-- The first requests of the round of the cache that was loaded were asked, and their answers taken.
pub record Begun (told now : Option (List Asked)) (before loaded_from : Option (Option (List ℕ)))
    : Type 0 where
  pub loaded : Cached
  pub asked : List Asked
  pub mid : Cached
  pub at : Round
  pub load : Loads before loaded_from loaded
  pub tells : now ≡ told_all told asked
  pub goes : Goes loaded new_round asked mid at

-- A load that failed says this, and nothing was asked or saved; or a cache was loaded, and none was
-- saved: what is kept is unknown, or as it was after it was loaded.
abbrev pub IsUnsaved
    : Type 0 → Option (List Asked) → Option (List Asked) → Option (Option (List ℕ))
    → Option (Option (List ℕ)) → Option (Option (List ℕ)) → Type 0
IsUnsaved failed told now before loaded_from after =
    (failed × (now ≡ told) × (after ≡ loaded_from))
    ⊎ (((loaded : Cached) × Loads before loaded_from loaded) × IsUnknownOr loaded_from after)

-- What each fault says. The count of the exchange's faults was the first number and is the second.
-- After Moved the cache that the round left was saved. After every other fault none was: what is
-- kept is as it was after it was loaded, or, after a fault of the shelf or of memory, it may be
-- unknown.
abbrev pub Explains
    : Option (List Asked) → Option (List Asked) → ℕ → ℕ → Option (Option (List ℕ))
    → Option (Option (List ℕ)) → Option (Option (List ℕ)) → SyncFault → Type 0
Explains told now faults more before loaded_from after (BadCache place) =
    LoadsBad before loaded_from place × (now ≡ told) × (after ≡ loaded_from)
Explains told now faults more before loaded_from after (BadReply place) =
    ((d : Cached) × Ended told now before loaded_from d (BadReply place)) × (after ≡ loaded_from)
Explains told now faults more before loaded_from after (Moved had shown) =
    (d : Cached) × Ended told now before loaded_from d (Moved had shown)
    × IsUnknownOr (Some (Some (cache_text d))) after
Explains told now faults more before loaded_from after TooLong =
    ((d : Cached) × Ended told now before loaded_from d TooLong) × (after ≡ loaded_from)
Explains told now faults more before loaded_from after ExchangeFault =
    Rose faults more × Begun told now before loaded_from × (after ≡ loaded_from)
Explains told now faults more before loaded_from after ShelfFault =
    IsUnsaved (IsUnknownOr before loaded_from) told now before loaded_from after
Explains told now faults more before loaded_from after NoMemory =
    IsUnsaved (LoadsAtMost before loaded_from) told now before loaded_from after

-- A fault of the shelf is one of loading, before anything is asked, or of saving. The counts of
-- these faults were the first number of each pair and are the second.
abbrev pub IsShelfRisen : Option (List Asked) → Option (List Asked) → ℕ → ℕ → ℕ → ℕ → SyncFault
    → Type 0
IsShelfRisen told now loads more_loads saves more_saves ShelfFault =
    (Rose loads more_loads × (now ≡ told)) ⊎ Rose saves more_saves
IsShelfRisen told now loads more_loads saves more_saves (BadCache place) = ⊤
IsShelfRisen told now loads more_loads saves more_saves (BadReply place) = ⊤
IsShelfRisen told now loads more_loads saves more_saves (Moved had shown) = ⊤
IsShelfRisen told now loads more_loads saves more_saves TooLong = ⊤
IsShelfRisen told now loads more_loads saves more_saves ExchangeFault = ⊤
IsShelfRisen told now loads more_loads saves more_saves NoMemory = ⊤

-- ---- for private clauses

-- the place is the least at which the content is not of its form, or no memory was left
abbrev pub IsContentFault : Option (List ℕ) → SyncFault → Type 0
IsContentFault content (BadCache place) = IsBadPlace content place
IsContentFault content (BadReply place) = ⊥
IsContentFault content (Moved had shown) = ⊥
IsContentFault content TooLong = ⊥
IsContentFault content ExchangeFault = ⊥
IsContentFault content ShelfFault = ⊥
IsContentFault content NoMemory = ⊤

-- the shelf failed, whose count of faults was the first number and is the second
abbrev pub IsShelfFault : ℕ → ℕ → SyncFault → Type 0
IsShelfFault faults more ShelfFault = Rose faults more
IsShelfFault faults more (BadCache place) = ⊥
IsShelfFault faults more (BadReply place) = ⊥
IsShelfFault faults more (Moved had shown) = ⊥
IsShelfFault faults more TooLong = ⊥
IsShelfFault faults more ExchangeFault = ⊥
IsShelfFault faults more NoMemory = ⊤

-- What is answered after a round that ended with a fault, or without one: the fault of the round,
-- with the text of the cache saved after Moved; or one of saving. What was kept was the first and
-- is the second; the count of faults of saving was the first number and is the second.
abbrev pub IsUnsettled
    : {T : Type 0} → Option (Option (List ℕ)) → Option (Option (List ℕ)) → ℕ → ℕ → List ℕ
    → Result T SyncFault → SyncFault → Type 0
IsUnsettled before after faults more text ended (Moved had shown) =
    (ended ≡ Err (Moved had shown)) × IsUnknownOr (Some (Some text)) after
IsUnsettled before after faults more text ended (BadCache place) =
    (ended ≡ Err (BadCache place)) × (after ≡ before)
IsUnsettled before after faults more text ended (BadReply place) =
    (ended ≡ Err (BadReply place)) × (after ≡ before)
IsUnsettled before after faults more text ended TooLong = (ended ≡ Err TooLong) × (after ≡ before)
IsUnsettled before after faults more text ended ExchangeFault =
    (ended ≡ Err ExchangeFault) × (after ≡ before)
IsUnsettled before after faults more text ended ShelfFault =
    ((ended ≡ Err ShelfFault) ⊎ Rose faults more) × IsUnknownOr before after
IsUnsettled before after faults more text ended NoMemory = IsUnknownOr before after
