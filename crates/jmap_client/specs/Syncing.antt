-- What `sync` does: it brings the cache of a file up to date, and prints what the cache has.
use Rattle.std.specs.Prelude.{◌≡◌, ◌⊎◌, ℕ, List, [], ◌∷◌, Option, Result, Ok, Err}
use Rattle.std.specs.Io.KnownBytes.{Appends}
use Rattle.client_cache.specs.Caches.{Cached}
use Rattle.client_lines.specs.Lines.{counts_text}
use Rattle.client_sync.specs.Faults.{Explains, IsShelfRisen}
use Rattle.client_sync.specs.Syncing.{Synced}
use Rattle.client_sync.specs.declared.fault.SyncFault.{SyncFault}
use Rattle.jmap_client.specs.ClientDeeds.{ClientDeed, GaveStore, GaveTalk, GotStore, GotTalk, IsTold}
use Rattle.jmap_client.specs.ClientFaults.{IsOutside, fault_of_sync}
use Rattle.jmap_client.specs.ClientSights.{ClientSight}
use Rattle.jmap_client.specs.Printing.{Prints}
use Rattle.jmap_client.specs.declared.fault.ClientFault.{ClientFault}

-- ---- an exchange and a shelf, as they were given and as they came back

-- The cache of the shelf was not brought up to date, for this reason. `loaded_from` is the shelf
-- after it was loaded.
pub record FailsToSync {X F : Type 0} (sight : ClientSight X F) (talk talk' : X) (store store' : F)
    (fault : ClientFault) : Type 0 where
  pub why : SyncFault
  pub loaded_from : F
  pub fault_is : fault ≡ fault_of_sync why
  pub explains : Explains (sight.told talk) (sight.told talk') (sight.faults talk)
      (sight.faults talk') (sight.kept store) (sight.kept loaded_from) (sight.kept store') why
  pub shelf : IsShelfRisen (sight.told talk) (sight.told talk') (sight.load_faults store)
      (sight.load_faults store') (sight.save_faults store) (sight.save_faults store') why

-- The shelf's cache was brought to this one over the exchange, and saved; or it was not.
abbrev pub EndsSync : {X F : Type 0} → ClientSight X F → (talk talk' : X) → (store store' : F)
    → Result Cached ClientFault → Type 0
EndsSync {X} {F} sight talk talk' store store' (Ok c) =
    (loaded_from : F) × Synced (sight.told talk) (sight.told talk') (sight.kept store)
    (sight.kept loaded_from) (sight.kept store') c
EndsSync sight talk talk' store store' (Err fault) =
    FailsToSync sight talk talk' store store' fault

-- ---- what the world gave and took back

-- the world did not give the shelf, or memory ran out
abbrev pub HasGivenNothing : {X F T : Type 0} → List (ClientDeed X F) → Result T ClientFault
    → Type 0
HasGivenNothing did ended = (did ≡ []) × IsOutside ended

-- the world gave the shelf and no exchange, or memory ran out; the shelf came back as it was
abbrev pub HasGivenStore : {X F T : Type 0} → (name : List ℕ) → List (ClientDeed X F)
    → Result T ClientFault → Type 0
HasGivenStore {X = X} {F = F} name did ended =
    (store : F) × (did ≡ GaveStore name store ∷ GotStore name store ∷ []) × IsOutside ended

-- The world gave the shelf of the file and an exchange with the server, and both came back, after
-- all was asked and saved.
pub record HasTalked {X F : Type 0} (sight : ClientSight X F) (host : List ℕ) (port : ℕ)
    (token name : List ℕ) (did : List (ClientDeed X F)) (ended : Result Cached ClientFault)
    : Type 0 where
  pub talk : X
  pub talk' : X
  pub store : F
  pub store' : F
  pub did_is : did
      ≡ GaveStore name store ∷ GaveTalk host port token talk ∷ GotTalk talk'
      ∷ GotStore name store' ∷ []
  pub ends : EndsSync sight talk talk' store store' ended

-- What was given came back, and the cache was brought to this one, or was not.
abbrev pub HasBrought : {X F : Type 0} → ClientSight X F → (host : List ℕ) → (port : ℕ)
    → (token name : List ℕ) → List (ClientDeed X F) → Result Cached ClientFault → Type 0
HasBrought {X} {F} sight host port token name did ended =
    HasGivenNothing {X = X} {F = F} did ended
    ⊎ HasGivenStore {X = X} {F = F} name did ended
    ⊎ HasTalked sight host port token name did ended

-- ---- the whole command

-- How many records and lists the cache has is printed; or nothing is, as it was not brought up to
-- date.
abbrev pub PrintsCounts : {T : Type 0} → Result Cached ClientFault → (held held' : Option (List ℕ))
    → Result T ClientFault → Type 0
PrintsCounts (Ok c) held held' result = Prints (counts_text c) held held' result
PrintsCounts (Err fault) held held' result = (result ≡ Err fault) × Appends held held' []

-- What the world was told before and after, and the bytes of the output, if they are known. `ended`
-- is the cache that the one of the file was brought to, or why it was not.
pub record HasSynced {X F T : Type 0} (sight : ClientSight X F) (host : List ℕ) (port : ℕ)
    (token name : List ℕ) (told told' : Option (List (ClientDeed X F)))
    (held held' : Option (List ℕ)) (result : Result T ClientFault) : Type 0 where
  pub did : List (ClientDeed X F)
  pub ended : Result Cached ClientFault
  pub told_is : IsTold told told' did
  pub brought : HasBrought sight host port token name did ended
  pub printed : PrintsCounts ended held held' result
