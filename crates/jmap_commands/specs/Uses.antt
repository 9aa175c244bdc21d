-- What a command does to the two worlds, and which counts of faults rose where it ends so.
use Rattle.std.specs.Prelude.{◌≡◌, ℕ, List, [], slice_index_or, Option, Some}
use Rattle.jm_edge.specs.Causes.{Rose}
use Rattle.mail_records.specs.Histories.{History}
use Rattle.batch_lines.specs.Input.{Seen}
use Rattle.jmap_server.specs.Lines.{Plans, Sight}
use Rattle.jmap_client.specs.ClientSights.{ClientSight}
use Rattle.jmap_commands.specs.Serving.{HasServed}
use Rattle.jmap_commands.specs.Syncing.{HasShownFile, HasSyncedFile}
use Rattle.jmap_commands.specs.Worlds.{ClientSeen, ServerSeen}
use Rattle.jmap_commands.specs.declared.arguments.Command.{Command}
use Rattle.jmap_commands.specs.declared.arguments.Command.TheVariants.{Serve, Sync, Show}
use Rattle.jmap_commands.specs.declared.ending.Ending.{Ending}

-- a server's world, or a client's, was left alone
abbrev pub IsUnused : {K L C : Type 0} → ServerSeen K L C → Type 0
IsUnused s =
    (s.told_after ≡ s.told) × (s.faults_after ≡ s.faults) × (s.loads_after ≡ s.loads)

abbrev pub IsClientUnused : {X F : Type 0} → ClientSeen X F → Type 0
IsClientUnused w =
    (w.told_after ≡ w.told) × (w.faults_after ≡ w.faults) × (w.talks_after ≡ w.talks)
    × (w.stores_after ≡ w.stores)

-- What a command does to a server's world s and to a client's world w. `serve` uses the first one,
-- its configuration and folder are the second and the third argument. `sync` and `show` use the
-- second one. The host of `sync` is the second argument, the token the fourth and the file the
-- fifth; the file of `show` is the second argument and the list the third.
abbrev pub HasUsed : {K R L C X F : Type 0} → Sight K L C → Plans R → (History → Type 0)
    → ClientSight X F → Option Command → List (List ℕ) → ServerSeen K L C → ClientSeen X F → Seen
    → Ending → Type 0
HasUsed sight plan_of whole talks (Some (Serve port count)) words s w v e =
    HasServed sight plan_of whole (slice_index_or words 1 []) (slice_index_or words 2 []) port count
    s e
    × IsClientUnused w
HasUsed sight plan_of whole talks (Some (Sync port)) words s w v e =
    HasSyncedFile talks (slice_index_or words 1 []) port (slice_index_or words 3 [])
    (slice_index_or words 4 []) w v.held v.held_after v.writes v.writes_after e
    × IsUnused s
HasUsed sight plan_of whole talks (Some Show) words s w v e =
    HasShownFile talks (slice_index_or words 1 []) (slice_index_or words 2 []) w v.held v.held_after
    v.writes v.writes_after e
    × IsUnused s
HasUsed sight plan_of whole talks other words s w v e = IsUnused s × IsClientUnused w

-- the count of the world that a command uses rose: the client's of `sync` and `show`, and the
-- server's of every other command
abbrev pub WorldRose : {K L C X F : Type 0} → Option Command → ServerSeen K L C → ClientSeen X F
    → Type 0
WorldRose (Some (Sync port)) s w = Rose w.faults w.faults_after
WorldRose (Some Show) s w = Rose w.faults w.faults_after
WorldRose other s w = Rose s.faults s.faults_after

-- The counts that rose where a command ends with a status: 3 comes only if the source failed, 4
-- only if the output did, 6 only if a keeper that came back had failed to load, 10 only if an
-- exchange that came back had failed, 11 only if a shelf had, and 13 only if the command's world
-- failed.
pub record HasCauses {K L C X F : Type 0} (c : Option Command) (status : ℕ) (s : ServerSeen K L C)
    (w : ClientSeen X F) (v : Seen) : Type 0 where
  pub read : status ≡ 3 → Rose v.reads v.reads_after
  pub write : status ≡ 4 → Rose v.writes v.writes_after
  pub keeper : status ≡ 6 → Rose s.loads s.loads_after
  pub exchange : status ≡ 10 → Rose w.talks w.talks_after
  pub shelf : status ≡ 11 → Rose w.stores w.stores_after
  pub desk : status ≡ 13 → WorldRose c s w
