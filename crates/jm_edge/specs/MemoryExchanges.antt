-- What an exchange in memory answers, and what a call makes of it.
use Rattle.std.specs.Prelude.{◌≡◌, true, false, [], Result, Ok, Err, drop, slice_get, unwrap_or}
use Rattle.jm_edge.specs.Schedules.{fails_next, passed, failed}
use Rattle.jm_edge.specs.declared.answer.Answer.{Answer}
use Rattle.jm_edge.specs.declared.fault.EdgeFault.{EdgeFault}
use Rattle.jm_edge.specs.declared.fault.EdgeFault.TheVariants.{Failed, NoMemory}
use Rattle.jm_edge.specs.declared.memory_exchange.MemoryExchange.{MemoryExchange}

-- the answer where none is left
abbrev pub unavailable : Answer
unavailable = record { status = 503; body = [] }

-- the next answer
abbrev pub next_answer : MemoryExchange → Answer
next_answer m = unwrap_or (slice_get m.coming.items 0) unavailable

-- What a call answers, and what it makes of the answers that are left and of the counts. It fails
-- exactly at the listed calls. A call that runs out of memory changes nothing and is not counted.
abbrev pub Answers : MemoryExchange → MemoryExchange → Result Answer EdgeFault → Type 0
Answers old new (Ok answer) =
    (fails_next old.calls ≡ false) × (answer ≡ next_answer old)
    × (new.coming.items ≡ drop 1 old.coming.items) × (new.calls ≡ passed old.calls)
Answers old new (Err Failed) =
    (fails_next old.calls ≡ true) × (new.coming ≡ old.coming) × (new.calls ≡ failed old.calls)
Answers old new (Err NoMemory) = (new.coming ≡ old.coming) × (new.calls ≡ old.calls)
