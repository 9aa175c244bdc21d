-- What each call makes of a shelf in memory.
use Rattle.std.specs.Prelude.{◌≡◌, ℕ, true, false, List, Option, Some, Result, Ok, Err}
use Rattle.jm_edge.specs.Schedules.{not_called, fails_next, passed, failed}
use Rattle.jm_edge.specs.declared.fault.EdgeFault.{EdgeFault}
use Rattle.jm_edge.specs.declared.fault.EdgeFault.TheVariants.{Failed, NoMemory}
use Rattle.jm_edge.specs.declared.memory_shelf.MemoryShelf.{MemoryShelf}

-- the shelf of this content before its first call
abbrev pub filled : Option (List ℕ) → List ℕ → List ℕ → MemoryShelf
filled content loads saves =
    record { content = content; loads = not_called loads; saves = not_called saves }

-- What `load` returns, and what it makes of the shelf. It fails exactly at the listed calls. A call
-- that runs out of memory changes nothing and is not counted.
abbrev pub Loads : MemoryShelf → MemoryShelf → Result (Option (List ℕ)) EdgeFault → Type 0
Loads old new (Ok content) = (fails_next old.loads ≡ false) × (content ≡ old.content)
    × (new ≡ record old { loads = passed old.loads })
Loads old new (Err Failed) = (fails_next old.loads ≡ true)
    × (new ≡ record old { loads = failed old.loads })
Loads old new (Err NoMemory) = new ≡ old

-- What `save` makes of the shelf: it holds these bytes, or the call fails and it holds what it held
-- before. It fails exactly at the listed calls.
abbrev pub Saves : {T : Type 0} → List ℕ → MemoryShelf → MemoryShelf → Result T EdgeFault
    → Type 0
Saves bytes old new (Ok _) = (fails_next old.saves ≡ false)
    × (new ≡ record old { content = Some bytes; saves = passed old.saves })
Saves bytes old new (Err Failed) = (fails_next old.saves ≡ true)
    × (new ≡ record old { saves = failed old.saves })
Saves bytes old new (Err NoMemory) = new ≡ old
