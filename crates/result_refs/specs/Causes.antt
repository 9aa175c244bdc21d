-- The cause of each fault of a reference or of the arguments of a call.
use Rattle.std.specs.Prelude.{◌≡◌, Option, None, ⊤}
use Rattle.result_refs.specs.References.{Resolution, bad_reference, both}
use Rattle.result_refs.specs.declared.fault.RefFault.{RefFault}
use Rattle.result_refs.specs.declared.fault.RefFault.TheVariants.{BadReference, Both, NoMemory}

-- the fault is that of the arguments, or an allocation failed
abbrev pub IsFaultOf : RefFault → Resolution → Type 0
IsFaultOf BadReference r = r ≡ bad_reference
IsFaultOf Both r = r ≡ both
IsFaultOf NoMemory r = ⊤

-- a single reference names nothing, or an allocation failed
abbrev pub Fails : {A : Type 0} → RefFault → Option A → Type 0
Fails BadReference o = o ≡ None
Fails Both o = ⊥
Fails NoMemory o = ⊤
