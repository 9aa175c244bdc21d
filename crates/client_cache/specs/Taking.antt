-- What is answered to a reply.
use Rattle.std.specs.Prelude.{◌≡◌, ◌<◌, ◌≤◌, ◌&&◌, ℕ, List, [], Bool, false, is_some, nat_le, Option, Some, None, Result, Ok, Err, ⊤}
use Rattle.jm_json.specs.LeastPlaces.{least_from}
use Rattle.client_cache.specs.Caches.{Cached}
use Rattle.client_cache.specs.Progress.{IsSame, Makes, by_reply}
use Rattle.client_cache.specs.ReplyForms.{reply_places}
use Rattle.client_cache.specs.Rounds.{Round}
use Rattle.client_cache.specs.declared.limits.TheConstants.{MAX_MOVED_REPLIES, MAX_REPLIES}
use Rattle.client_cache.specs.declared.reply_fault.MovedStates.{MovedStates}
use Rattle.client_cache.specs.declared.reply_fault.ReplyFault.{ReplyFault}
use Rattle.client_cache.specs.declared.reply_fault.ReplyFault.TheVariants.{BadReply, Moved, NoMemory, TooLong}

-- The reply showed another state than it should, and as many replies of the round did as end it.
abbrev pub ends : Option MovedStates → ℕ → Bool
ends moved count = is_some moved && nat_le MAX_MOVED_REPLIES count

-- The cache and the round are what the reply makes of them, and the round goes on.
abbrev pub IsTaken : Cached → Round → List ℕ → Cached → Round → Type 0
IsTaken c r bytes d s =
    (moved : Option MovedStates) × Makes (by_reply c r bytes) d s moved
    × (ends moved s.moved ≡ false)

-- They are what the reply makes of them, and the round ends, as it had another state than was
-- shown.
abbrev pub IsLast : Cached → Round → List ℕ → Cached → Round → MovedStates → Type 0
IsLast c r bytes d s states =
    (reply_places c r bytes ≡ []) × Makes (by_reply c r bytes) d s (Some states)
    × (MAX_MOVED_REPLIES ≤ s.moved)

-- Why a reply is not taken, or ends its round.
abbrev pub Explains : Cached → Round → List ℕ → Cached → Round → ReplyFault → Type 0
Explains c r bytes d s (BadReply place) =
    (r.replies < MAX_REPLIES) × (least_from None (reply_places c r bytes) ≡ Some place)
    × IsSame c r d s
Explains c r bytes d s (Moved had shown) =
    (r.replies < MAX_REPLIES) × IsLast c r bytes d s (record { had = had; shown = shown })
Explains c r bytes d s TooLong = (MAX_REPLIES ≤ r.replies) × IsSame c r d s
Explains c r bytes d s NoMemory = IsSame c r d s

-- ---- for private clauses

-- the fault is a place, the least of these; out of memory explains itself
abbrev pub IsPlace : ReplyFault → List (List ℕ) → Type 0
IsPlace (BadReply place) places = least_from None places ≡ Some place
IsPlace (Moved had shown) places = ⊥
IsPlace TooLong places = ⊥
IsPlace NoMemory places = ⊤

abbrev pub IsAnswer : {T : Type 0} → Option MovedStates → ℕ → Result T ReplyFault → Type 0
IsAnswer moved count (Ok _) = ends moved count ≡ false
IsAnswer moved count (Err (BadReply place)) = ⊥
IsAnswer moved count (Err (Moved had shown)) =
    (moved ≡ Some (record { had = had; shown = shown })) × (MAX_MOVED_REPLIES ≤ count)
IsAnswer moved count (Err TooLong) = ⊥
IsAnswer moved count (Err NoMemory) = ⊥
