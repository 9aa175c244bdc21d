-- How a command ends.
use Rattle.std.proofs.Common.{◌≡◌, Err, sym, subst}
use Rattle.jm_edge.specs.declared.fault.EdgeFault.{EdgeFault}
use Rattle.jm_edge.specs.declared.fault.EdgeFault.TheVariants.{Failed, NoMemory as NoRoom}
use Rattle.jmap_client.specs.ClientFaults.{IsOutside, fault_of_world}
use Rattle.jmap_client.specs.declared.fault.ClientFault.{ClientFault}

-- the world failed
pub outside : (T : Type 0) (e : EdgeFault) (fault : ClientFault) → fault ≡ fault_of_world e → IsOutside {T = T} (Err fault)
outside T Failed fault same = subst (λ (f : ClientFault). IsOutside {T = T} (Err f)) (sym same) tt
outside T NoRoom fault same = subst (λ (f : ClientFault). IsOutside {T = T} (Err f)) (sym same) tt
