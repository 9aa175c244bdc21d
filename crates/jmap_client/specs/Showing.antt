-- What `show` does: it prints a list of the cache of a file.
use Rattle.std.specs.Prelude.{◌≡◌, ◌⊎◌, ℕ, List, [], ◌∷◌, codes, Option, Some, None, Result, Ok, Err, ⊤}
use Rattle.std.specs.Io.KnownBytes.{Appends}
use Rattle.client_cache.specs.Caches.{Cached, ListView}
use Rattle.client_lines.specs.Lines.{list_named, list_text}
use Rattle.client_sync.specs.Faults.{ExplainsLoad}
use Rattle.client_sync.specs.Syncing.{Loads}
use Rattle.client_sync.specs.declared.fault.SyncFault.{SyncFault}
use Rattle.jmap_client.specs.ClientDeeds.{ClientDeed, GaveStore, GotStore, IsTold}
use Rattle.jmap_client.specs.ClientFaults.{fault_of_sync}
use Rattle.jmap_client.specs.ClientSights.{ClientSight}
use Rattle.jmap_client.specs.Printing.{Prints}
use Rattle.jmap_client.specs.Syncing.{HasGivenNothing}
use Rattle.jmap_client.specs.declared.fault.ClientFault.{ClientFault}
use Rattle.jmap_client.specs.declared.fault.ClientFault.TheVariants.{BadCache, NoMemory}

-- ---- a shelf, as it was given and as it came back

-- the cache of the shelf was not loaded, for this reason
pub record FailsToLoad {F : Type 0} (kept : F → Option (Option (List ℕ))) (load_faults : F → ℕ)
    (store store' : F) (fault : ClientFault) : Type 0 where
  pub why : SyncFault
  pub fault_is : fault ≡ fault_of_sync why
  pub explains : ExplainsLoad (kept store) (kept store') (load_faults store) (load_faults store')
      why

-- the shelf's cache is this one; or it was not loaded
abbrev pub EndsLoad : {F : Type 0} → (F → Option (Option (List ℕ))) → (F → ℕ) → (store store' : F)
    → Result Cached ClientFault → Type 0
EndsLoad kept load_faults store store' (Ok c) = Loads (kept store) (kept store') c
EndsLoad kept load_faults store store' (Err fault) =
    FailsToLoad kept load_faults store store' fault

-- ---- what the world gave and took back

-- The world gave the shelf of the file, and it came back after it was loaded.
pub record HasLooked {X F : Type 0} (sight : ClientSight X F) (name : List ℕ)
    (did : List (ClientDeed X F)) (ended : Result Cached ClientFault) : Type 0 where
  pub store : F
  pub store' : F
  pub did_is : did ≡ GaveStore name store ∷ GotStore name store' ∷ []
  pub ends : EndsLoad sight.kept sight.load_faults store store' ended

-- What was given came back, and the cache is this one, or was not loaded.
abbrev pub HasLoaded : {X F : Type 0} → ClientSight X F → (name : List ℕ) → List (ClientDeed X F)
    → Result Cached ClientFault → Type 0
HasLoaded {X} {F} sight name did ended =
    HasGivenNothing {X = X} {F = F} did ended ⊎ HasLooked sight name did ended

-- ---- the whole command

-- there is no list of this name, which is the cache's fault, or memory ran out
abbrev pub IsUnknownFault : ClientFault → Type 0
IsUnknownFault (BadCache place) = place ≡ codes "/lists"
IsUnknownFault NoMemory = ⊤
IsUnknownFault other = ⊥

abbrev pub IsUnknownList : {T : Type 0} → Result T ClientFault → Type 0
IsUnknownList (Ok x) = ⊥
IsUnknownList (Err fault) = IsUnknownFault fault

-- the emails of the list are printed, or nothing is, as the cache has no such list
abbrev pub PrintsList : {T : Type 0} → Cached → Option ListView → (held held' : Option (List ℕ))
    → Result T ClientFault → Type 0
PrintsList c (Some l) held held' result = Prints (list_text c l) held held' result
PrintsList c None held held' result = IsUnknownList result × Appends held held' []

-- The first list of this name of the cache is printed; or nothing is, as the cache was not loaded.
abbrev pub PrintsListOf : {T : Type 0} → (list : List ℕ) → Result Cached ClientFault
    → (held held' : Option (List ℕ)) → Result T ClientFault → Type 0
PrintsListOf list (Ok c) held held' result =
    PrintsList c (list_named list c.lists) held held' result
PrintsListOf list (Err fault) held held' result = (result ≡ Err fault) × Appends held held' []

-- What the world was told before and after, and the bytes of the output, if they are known. `ended`
-- is the cache of the file, or why it was not loaded.
pub record HasShown {X F T : Type 0} (sight : ClientSight X F) (name list : List ℕ)
    (told told' : Option (List (ClientDeed X F))) (held held' : Option (List ℕ))
    (result : Result T ClientFault) : Type 0 where
  pub did : List (ClientDeed X F)
  pub ended : Result Cached ClientFault
  pub told_is : IsTold told told' did
  pub loaded : HasLoaded sight name did ended
  pub printed : PrintsListOf list ended held held' result
