-- What is printed of a text.
use Rattle.std.specs.Prelude.{ℕ, List, take, Option, Result, Ok, Err}
use Rattle.std.specs.Io.KnownBytes.{Appends}
use Rattle.jmap_client.specs.declared.fault.ClientFault.{ClientFault}
use Rattle.jmap_client.specs.declared.fault.ClientFault.TheVariants.{NoMemory, WriteFault}

-- The text was printed; or a prefix of it, as the output failed or memory ran out. The bytes of the
-- output are these before and after, if they are known.
abbrev pub Prints : {T : Type 0} → List ℕ → (held held' : Option (List ℕ)) → Result T ClientFault
    → Type 0
Prints text held held' (Ok x) = Appends held held' text
Prints text held held' (Err WriteFault) = (n : ℕ) × Appends held held' (take n text)
Prints text held held' (Err NoMemory) = (n : ℕ) × Appends held held' (take n text)
Prints text held held' other = ⊥
