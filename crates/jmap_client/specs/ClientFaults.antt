-- Why a command of a client ends before all its text is printed.
use Rattle.std.specs.Prelude.{◌⊎◌, ℕ, Result, Err, ⊤}
use Rattle.jm_edge.specs.Causes.{Rose}
use Rattle.jm_edge.specs.declared.fault.EdgeFault.{EdgeFault}
use Rattle.jm_edge.specs.declared.fault.EdgeFault.TheVariants.{Failed, NoMemory as NoRoom}
use Rattle.client_lines.specs.declared.fault.PrintFault.{PrintFault}
use Rattle.client_lines.specs.declared.fault.PrintFault.TheVariants as print
use Rattle.client_sync.specs.declared.fault.SyncFault.{SyncFault}
use Rattle.client_sync.specs.declared.fault.SyncFault.TheVariants as sync
use Rattle.jmap_client.specs.declared.fault.ClientFault.{ClientFault}
use Rattle.jmap_client.specs.declared.fault.ClientFault.TheVariants.{BadCache, BadReply, DeskFault, ExchangeFault, Moved, NoMemory, ShelfFault, TooLong, WriteFault}

-- ---- which fault it is

-- how a command ends where the world failed
abbrev pub fault_of_world : EdgeFault → ClientFault
fault_of_world Failed = DeskFault
fault_of_world NoRoom = NoMemory

-- how a command ends whose cache was not loaded, or not brought up to date
abbrev pub fault_of_sync : SyncFault → ClientFault
fault_of_sync (sync.BadReply place) = BadReply place
fault_of_sync (sync.BadCache place) = BadCache place
fault_of_sync (sync.Moved had shown) = Moved (record { had = had; shown = shown })
fault_of_sync sync.TooLong = TooLong
fault_of_sync sync.ExchangeFault = ExchangeFault
fault_of_sync sync.ShelfFault = ShelfFault
fault_of_sync sync.NoMemory = NoMemory

-- how a command ends whose text was not all printed
abbrev pub fault_of_print : PrintFault → ClientFault
fault_of_print print.WriteFault = WriteFault
fault_of_print print.NoMemory = NoMemory

-- the world failed, or memory ran out
abbrev pub IsOutside : {T : Type 0} → Result T ClientFault → Type 0
IsOutside (Err DeskFault) = ⊤
IsOutside (Err NoMemory) = ⊤
IsOutside other = ⊥

-- ---- which counts rose

-- What a fault says of counts of faults, each before and after: that of the output rose, that of
-- the world, that of the exchanges that came back to it, or that of the shelves.
abbrev pub IsCaused : (writes writes' faults faults' talks talks' stores stores' : ℕ) → ClientFault
    → Type 0
IsCaused writes writes' faults faults' talks talks' stores stores' WriteFault = Rose writes writes'
IsCaused writes writes' faults faults' talks talks' stores stores' DeskFault = Rose faults faults'
IsCaused writes writes' faults faults' talks talks' stores stores' ExchangeFault = Rose talks talks'
IsCaused writes writes' faults faults' talks talks' stores stores' ShelfFault = Rose stores stores'
IsCaused writes writes' faults faults' talks talks' stores stores' (BadReply place) = ⊤
IsCaused writes writes' faults faults' talks talks' stores stores' (BadCache place) = ⊤
IsCaused writes writes' faults faults' talks talks' stores stores' (Moved states) = ⊤
IsCaused writes writes' faults faults' talks talks' stores stores' TooLong = ⊤
IsCaused writes writes' faults faults' talks talks' stores stores' NoMemory = ⊤

-- ---- for private clauses: before anything is printed

abbrev pub IsCausedBefore : (faults faults' talks talks' stores stores' : ℕ) → ClientFault → Type 0
IsCausedBefore faults faults' talks talks' stores stores' WriteFault = ⊥
IsCausedBefore faults faults' talks talks' stores stores' DeskFault = Rose faults faults'
IsCausedBefore faults faults' talks talks' stores stores' ExchangeFault = Rose talks talks'
IsCausedBefore faults faults' talks talks' stores stores' ShelfFault = Rose stores stores'
IsCausedBefore faults faults' talks talks' stores stores' (BadReply place) = ⊤
IsCausedBefore faults faults' talks talks' stores stores' (BadCache place) = ⊤
IsCausedBefore faults faults' talks talks' stores stores' (Moved states) = ⊤
IsCausedBefore faults faults' talks talks' stores stores' TooLong = ⊤
IsCausedBefore faults faults' talks talks' stores stores' NoMemory = ⊤

-- what a fault says of the counts of an exchange and of a shelf, those of loading and of saving
abbrev pub IsCausedOver : (talks talks' loads loads' saves saves' : ℕ) → ClientFault → Type 0
IsCausedOver talks talks' loads loads' saves saves' WriteFault = ⊥
IsCausedOver talks talks' loads loads' saves saves' DeskFault = ⊥
IsCausedOver talks talks' loads loads' saves saves' ExchangeFault = Rose talks talks'
IsCausedOver talks talks' loads loads' saves saves' ShelfFault =
    Rose loads loads' ⊎ Rose saves saves'
IsCausedOver talks talks' loads loads' saves saves' (BadReply place) = ⊤
IsCausedOver talks talks' loads loads' saves saves' (BadCache place) = ⊤
IsCausedOver talks talks' loads loads' saves saves' (Moved states) = ⊤
IsCausedOver talks talks' loads loads' saves saves' TooLong = ⊤
IsCausedOver talks talks' loads loads' saves saves' NoMemory = ⊤

-- what a fault of printing says
abbrev pub IsCausedByPrinting : (writes writes' : ℕ) → ClientFault → Type 0
IsCausedByPrinting writes writes' WriteFault = Rose writes writes'
IsCausedByPrinting writes writes' DeskFault = ⊥
IsCausedByPrinting writes writes' ExchangeFault = ⊥
IsCausedByPrinting writes writes' ShelfFault = ⊥
IsCausedByPrinting writes writes' other = ⊤

-- what a fault of loading says of the count of these faults
abbrev pub IsCausedByLoading : (loads loads' : ℕ) → ClientFault → Type 0
IsCausedByLoading loads loads' WriteFault = ⊥
IsCausedByLoading loads loads' DeskFault = ⊥
IsCausedByLoading loads loads' ExchangeFault = ⊥
IsCausedByLoading loads loads' ShelfFault = Rose loads loads'
IsCausedByLoading loads loads' other = ⊤
