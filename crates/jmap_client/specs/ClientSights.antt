-- What contracts see of exchanges and shelves.
use Rattle.std.specs.Prelude.{ℕ, List, Option}
use Rattle.jm_edge.specs.declared.answer.Asked.{Asked}

-- Of an exchange: what it was asked and answered, if it exposes that, and how often it failed. Of a
-- shelf: what it keeps, if it knows that, and how often loading and saving failed.
pub record ClientSight (X F : Type 0) : Type 0 where
  pub told : X → Option (List Asked)
  pub faults : X → ℕ
  pub kept : F → Option (Option (List ℕ))
  pub load_faults : F → ℕ
  pub save_faults : F → ℕ

abbrev pub client_sight_of : {X F : Type 0} → (X → Option (List Asked)) → (X → ℕ)
    → (F → Option (Option (List ℕ))) → (F → ℕ) → (F → ℕ) → ClientSight X F
client_sight_of told faults kept load_faults save_faults = record {
  told = told;
  faults = faults;
  kept = kept;
  load_faults = load_faults;
  save_faults = save_faults;
}
