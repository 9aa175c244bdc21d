-- What is seen of the two worlds of a run, before and after it.
use Rattle.std.specs.Prelude.{ℕ, List, Option}
use Rattle.jmap_server.specs.Deeds.{Deed}
use Rattle.jmap_client.specs.ClientDeeds.{ClientDeed}

-- Of a server's world: what it gave and took back, if it exposes that, how often it failed, and how
-- often the keepers that came back had failed to load.
pub record ServerSeen (K L C : Type 0) : Type 0 where
  pub told : Option (List (Deed K L C))
  pub told_after : Option (List (Deed K L C))
  pub faults : ℕ
  pub faults_after : ℕ
  pub loads : ℕ
  pub loads_after : ℕ

-- what is seen of it, by what is known of a world and by its faults
abbrev pub server_seen : {W K L C : Type 0} → (W → Option (List (Deed K L C))) → (W → ℕ) → (W → ℕ)
    → W → W → ServerSeen K L C
server_seen told_by faults_of loads_of world world' = record {
  told = told_by world;
  told_after = told_by world';
  faults = faults_of world;
  faults_after = faults_of world';
  loads = loads_of world;
  loads_after = loads_of world';
}

-- Of a client's world: what it gave and took back, if it exposes that, how often it failed, and how
-- often the exchanges and the shelves that came back had failed.
pub record ClientSeen (X F : Type 0) : Type 0 where
  pub told : Option (List (ClientDeed X F))
  pub told_after : Option (List (ClientDeed X F))
  pub faults : ℕ
  pub faults_after : ℕ
  pub talks : ℕ
  pub talks_after : ℕ
  pub stores : ℕ
  pub stores_after : ℕ

abbrev pub client_seen : {W X F : Type 0} → (W → Option (List (ClientDeed X F))) → (W → ℕ)
    → (W → ℕ) → (W → ℕ) → W → W → ClientSeen X F
client_seen told_by faults_of talks_of stores_of world world' = record {
  told = told_by world;
  told_after = told_by world';
  faults = faults_of world;
  faults_after = faults_of world';
  talks = talks_of world;
  talks_after = talks_of world';
  stores = stores_of world;
  stores_after = stores_of world';
}
