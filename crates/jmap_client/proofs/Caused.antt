-- Which counts of faults rose after printing.
use Rattle.std.proofs.Common.{ℕ, Result, Ok, Err}
use Rattle.std.specs.Result.{IfErr}
use Rattle.jmap_client.specs.ClientFaults.{IsCaused, IsCausedByPrinting}
use Rattle.jmap_client.specs.declared.fault.ClientFault.{ClientFault}
use Rattle.jmap_client.specs.declared.fault.ClientFault.TheVariants.{BadCache, BadReply, DeskFault, ExchangeFault, Moved, NoMemory, ShelfFault, TooLong, WriteFault}

pub caused_printing : {T : Type 0} (r : Result T ClientFault) (writes writes' faults faults' talks talks' stores stores' : ℕ) → IfErr r (IsCausedByPrinting writes writes') → IfErr r (IsCaused writes writes' faults faults' talks talks' stores stores')
caused_printing (Ok x) writes writes' faults faults' talks talks' stores stores' h = tt
caused_printing (Err WriteFault) writes writes' faults faults' talks talks' stores stores' h = h
caused_printing (Err DeskFault) writes writes' faults faults' talks talks' stores stores' h = absurd h
caused_printing (Err ExchangeFault) writes writes' faults faults' talks talks' stores stores' h = absurd h
caused_printing (Err ShelfFault) writes writes' faults faults' talks talks' stores stores' h = absurd h
caused_printing (Err (BadReply place)) writes writes' faults faults' talks talks' stores stores' h = tt
caused_printing (Err (BadCache place)) writes writes' faults faults' talks talks' stores stores' h = tt
caused_printing (Err (Moved states)) writes writes' faults faults' talks talks' stores stores' h = tt
caused_printing (Err TooLong) writes writes' faults faults' talks talks' stores stores' h = tt
caused_printing (Err NoMemory) writes writes' faults faults' talks talks' stores stores' h = tt
