-- What a keeper over a database returns.
use Rattle.std.specs.Prelude.{◌≡◌, ◌≢◌, ℕ, Result, Ok, Err, ◌⊎◌}
use Rattle.jm_edge.specs.Memory.{one_on}
use Rattle.jm_edge.specs.declared.fault.EdgeFault.{EdgeFault}
use Rattle.jm_edge.specs.declared.fault.EdgeFault.TheVariants.{Failed, NoMemory}
use Rattle.sqlite.specs.declared.error.Error.{Error}
use Rattle.sqlite.specs.declared.error.Error.TheVariants.{SqliteFailure}
use Rattle.sqlite.specs.declared.error.ErrorCode.TheVariants.{OutOfMemory}

-- What is returned for the result of a call in the database, and the count of faults before and
-- after it: a value is returned, and if the database ran out of memory so did the keeper, both
-- without a count; any other error is a fault, and counted once.
abbrev pub Answers : {T : Type 0} → Result T Error → ℕ → ℕ → Result T EdgeFault → Type 0
Answers (Ok x) before now answer = (answer ≡ Ok x) × (now ≡ before)
Answers (Err e) before now answer =
    ((e ≡ SqliteFailure OutOfMemory) × (answer ≡ Err NoMemory) × (now ≡ before))
    ⊎ ((e ≢ SqliteFailure OutOfMemory) × (answer ≡ Err Failed) × (now ≡ one_on before))
