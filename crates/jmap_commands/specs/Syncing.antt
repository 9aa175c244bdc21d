-- How runs of `sync` and of `show` end.
use Rattle.std.specs.Prelude.{◌≡◌, ◌⊎◌, ℕ, List, ◌++◌, codes, IfErr, Option, Result, Ok, Err}
use Rattle.jmap_client.specs.ClientSights.{ClientSight}
use Rattle.jmap_client.specs.ClientFaults.{IsCaused}
use Rattle.jmap_client.specs.Showing.{HasShown}
use Rattle.jmap_client.specs.Syncing.{HasSynced}
use Rattle.jmap_client.specs.declared.fault.ClientFault.{ClientFault}
use Rattle.jmap_client.specs.declared.fault.ClientFault.TheVariants as fault
use Rattle.jmap_commands.specs.Worlds.{ClientSeen}
use Rattle.jmap_commands.specs.declared.ending.Ending.{Ending}
use Rattle.jmap_commands.specs.declared.ending.Ending.TheVariants.{Done, WriteFault, NoMemory, BadReply, Moved, ExchangeFault, ShelfFault, BadCache, DeskFault, TooLong}

-- ---- what is said

-- which place of a reply is bad
abbrev pub bad_reply_text : List ℕ → List ℕ
bad_reply_text place = codes "bad reply: " ++ (place ++ codes "\n")

-- the state that a round had, and the one that a reply showed
abbrev pub moved_text : (had shown : List ℕ) → List ℕ
moved_text had shown =
    codes "moved: had " ++ (had ++ (codes ", shown " ++ (shown ++ codes "\n")))

-- which place of a cache's file is bad
abbrev pub bad_cache_text : List ℕ → List ℕ
bad_cache_text place = codes "bad cache: " ++ (place ++ codes "\n")

-- ---- how a run ends

-- how a run ends whose client ended with this fault, if there is memory for what is said
abbrev pub ending_of_client : ClientFault → Ending
ending_of_client fault.WriteFault = WriteFault
ending_of_client (fault.BadReply place) = BadReply (bad_reply_text place)
ending_of_client (fault.Moved states) = Moved (moved_text states.had states.shown)
ending_of_client fault.ExchangeFault = ExchangeFault
ending_of_client fault.ShelfFault = ShelfFault
ending_of_client (fault.BadCache place) = BadCache (bad_cache_text place)
ending_of_client fault.DeskFault = DeskFault
ending_of_client fault.TooLong = TooLong
ending_of_client fault.NoMemory = NoMemory

-- a run ends with this fault of its client, or out of memory
abbrev pub IsClientFaultEnding : ClientFault → Ending → Type 0
IsClientFaultEnding f e = (e ≡ ending_of_client f) ⊎ (e ≡ NoMemory)

-- a run ends as its client does, or out of memory
abbrev pub IsClientEnding : Result (Unit {0}) ClientFault → Ending → Type 0
IsClientEnding (Ok u) e = e ≡ Done
IsClientEnding (Err f) e = IsClientFaultEnding f e

-- A client brought the cache of a file up to date over the world, ended so, and the run ends so.
pub record HasSyncedFile {X F : Type 0} (sight : ClientSight X F) (host : List ℕ) (port : ℕ)
    (token name : List ℕ) (w : ClientSeen X F) (held held' : Option (List ℕ))
    (writes writes' : ℕ) (e : Ending) : Type 0 where
  pub result : Result (Unit {0}) ClientFault
  pub synced : HasSynced sight host port token name w.told w.told_after held held' result
  pub caused : IfErr result (IsCaused writes writes' w.faults w.faults_after w.talks w.talks_after
      w.stores w.stores_after)
  pub ending : IsClientEnding result e

-- A client showed a list of the cache of a file over the world, ended so, and the run ends so.
pub record HasShownFile {X F : Type 0} (sight : ClientSight X F) (name list : List ℕ)
    (w : ClientSeen X F) (held held' : Option (List ℕ)) (writes writes' : ℕ) (e : Ending)
    : Type 0 where
  pub result : Result (Unit {0}) ClientFault
  pub shown : HasShown sight name list w.told w.told_after held held' result
  pub caused : IfErr result (IsCaused writes writes' w.faults w.faults_after w.talks w.talks_after
      w.stores w.stores_after)
  pub ending : IsClientEnding result e
