-- Which argument a fault blames (RFC 8620, 3.6.2: `invalidArguments`).
use Rattle.std.specs.Prelude.{◌≡◌, ℕ, List, Option, Some, ⊤}
use Rattle.get_args.specs.Wanted.{Reading, invalid}
use Rattle.get_args.specs.declared.fault.WantedFault.{WantedFault}
use Rattle.get_args.specs.declared.fault.WantedFault.TheVariants.{Invalid, NoMemory}

-- the fault names the invalid argument, or memory ran out
abbrev pub ReadingFails : WantedFault → Reading → Type 0
ReadingFails (Invalid name) reading = reading ≡ invalid name
ReadingFails NoMemory reading = ⊤

-- the fault blames the argument of this name, for which there is this cause, or memory ran out
abbrev pub Blames : List ℕ → Type 0 → WantedFault → Type 0
Blames name Cause (Invalid blamed) = (blamed ≡ name) × Cause
Blames name Cause NoMemory = ⊤

-- the fault names the invalid argument that was found, or memory ran out
abbrev pub Names : WantedFault → Option (List ℕ) → Type 0
Names (Invalid name) found = found ≡ Some name
Names NoMemory found = ⊤
