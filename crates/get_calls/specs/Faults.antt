-- With which fault a get or a parse fails, by the answer that its definition gives.
use Rattle.std.specs.Prelude.{◌≡◌, ⊤}
use Rattle.mail_view.specs.Gets.{Got, invalid, too_large}
use Rattle.get_args.specs.declared.fault.WantedFault.{WantedFault}
use Rattle.get_args.specs.declared.fault.WantedFault.TheVariants as wanted
use Rattle.get_calls.specs.declared.fault.GetFault.{GetFault}
use Rattle.get_calls.specs.declared.fault.GetFault.TheVariants.{Invalid, TooLarge, NoMemory}

-- a get whose answer is this one fails with this fault; memory may run out in any get
abbrev pub GetFails : GetFault → Got → Type 0
GetFails (Invalid name) answer = answer ≡ invalid name
GetFails TooLarge answer = answer ≡ too_large
GetFails NoMemory answer = ⊤

-- the fault of an argument as that of a get
abbrev pub fault_of : WantedFault → GetFault
fault_of (wanted.Invalid name) = Invalid name
fault_of wanted.NoMemory = NoMemory
