-- When a fault may be answered.
use Rattle.std.specs.Prelude.{◌≡◌, ℕ, ◌+◌, ◌-◌, ◌^◌, ◌≤◌, min, OnErr, Result, Ok, Err}
use Rattle.jm_edge.specs.declared.fault.EdgeFault.{EdgeFault}
use Rattle.jm_edge.specs.declared.fault.EdgeFault.TheVariants.{Failed, NoMemory}

-- a count of faults rose, or is at the end of its 64 bits
abbrev pub Rose : ℕ → ℕ → Type 0
Rose before now = min (before + 1) (2 ^ 64 - 1) ≤ now

-- the count did not fall, and it rose where the call failed
pub record HasCause {T E : Type 0} (before now : ℕ) (result : Result T E) : Type 0 where
  pub later : before ≤ now
  pub failed : OnErr result (Rose before now)

-- the count of faults rose if the call failed, and else it is as it was
abbrev pub IsCounted : {T : Type 0} → ℕ → ℕ → Result T EdgeFault → Type 0
IsCounted before now (Err Failed) = Rose before now
IsCounted before now (Err NoMemory) = now ≡ before
IsCounted before now (Ok _) = now ≡ before
