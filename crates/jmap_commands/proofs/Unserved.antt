-- Runs of `serve` that write nothing.
use Rattle.std.proofs.Common.{inl, inr, ℕ, List, Option, sym, subst}
use Rattle.jm_edge.proofs.Known.{appends_none}
use Rattle.jmap_server.specs.declared.fault.ServeFault.{ServeFault}
use Rattle.jmap_server.specs.declared.fault.ServeFault.TheVariants as fault
use Rattle.jmap_commands.specs.Serving.{IsFaultEnding, WritesServed, ending_of_fault}
use Rattle.jmap_commands.specs.declared.ending.Ending.{Ending}

by_fault : (f : ServeFault) (count : ℕ) (held : Option (List ℕ)) (writes : ℕ) → WritesServed (ending_of_fault f) count held held writes writes
by_fault (fault.BadConfig place) count held writes = appends_none held
by_fault fault.KeeperFault count held writes = appends_none held
by_fault (fault.Damaged row why) count held writes = appends_none held
by_fault fault.DeskFault count held writes = appends_none held
by_fault fault.NoMemory count held writes = appends_none held

pub fault_written : (f : ServeFault) (e : Ending) (count : ℕ) (held : Option (List ℕ)) (writes : ℕ) → IsFaultEnding f e → WritesServed e count held held writes writes
fault_written f e count held writes (inl h) = subst (λ (x : Ending). WritesServed x count held held writes writes) (sym h) (by_fault f count held writes)
fault_written f e count held writes (inr h) = subst (λ (x : Ending). WritesServed x count held held writes writes) (sym h) (appends_none held)
