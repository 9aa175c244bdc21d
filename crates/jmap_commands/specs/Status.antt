-- The statuses with which a run ends, and what each says on the error output.
use Rattle.std.specs.Prelude.{◌⊎◌, ℕ, List, [], ◌∷◌, ◌++◌, codes, Option, take}
use Rattle.std.specs.Io.KnownBytes.{Appends}
use Rattle.jm_edge.specs.Causes.{Rose}
use Rattle.jmap_commands.specs.declared.ending.Ending.{Ending}
use Rattle.jmap_commands.specs.declared.ending.Ending.TheVariants.{Done, Usage, ReadFault, WriteFault, NoMemory, KeeperFault, Damaged, BadReply, Moved, ExchangeFault, ShelfFault, BadConfig, BadCache, DeskFault, TooLong}

abbrev pub status_of : Ending → ℕ
status_of Done = 0
status_of Usage = 2
status_of ReadFault = 3
status_of WriteFault = 4
status_of NoMemory = 5
status_of KeeperFault = 6
status_of (Damaged line) = 7
status_of (BadReply line) = 8
status_of (Moved line) = 9
status_of ExchangeFault = 10
status_of ShelfFault = 11
status_of (BadConfig line) = 12
status_of (BadCache line) = 12
status_of DeskFault = 13
status_of TooLong = 14

abbrev pub text_of : Ending → List ℕ
text_of Done = []
text_of Usage = codes "usage: jmap batch, read, serve, sync, show, compact or rehearse" ++ 10 ∷ []
text_of ReadFault = codes "read fault" ++ 10 ∷ []
text_of WriteFault = codes "write fault" ++ 10 ∷ []
text_of NoMemory = codes "no memory" ++ 10 ∷ []
text_of KeeperFault = codes "keeper fault" ++ 10 ∷ []
text_of (Damaged line) = line
text_of (BadReply line) = line
text_of (Moved line) = line
text_of ExchangeFault = codes "exchange fault" ++ 10 ∷ []
text_of ShelfFault = codes "shelf fault" ++ 10 ∷ []
text_of (BadConfig line) = line
text_of (BadCache line) = line
text_of DeskFault = codes "desk fault" ++ 10 ∷ []
text_of TooLong = codes "too long" ++ 10 ∷ []

-- the text was written, or a prefix of it where writing failed
abbrev pub WritesOrFails : Option (List ℕ) → Option (List ℕ) → ℕ → ℕ → List ℕ → Type 0
WritesOrFails held held' faults faults' text =
    Appends held held' text
    ⊎ (Rose faults faults' × ((n : ℕ) × Appends held held' (take n text)))
