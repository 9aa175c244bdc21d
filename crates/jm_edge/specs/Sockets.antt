-- What a WebSocket connection shows and takes, where it is known.
use Rattle.std.specs.Prelude.{◌≡◌, ℕ, List, [], ◌∷◌, ◌++◌, Option, Some, None, Result, Ok, Err, ⊤}
use Rattle.jm_edge.specs.declared.arrival.Arrival.{Arrival}
use Rattle.jm_edge.specs.declared.arrival.Arrival.TheVariants.{Closed}
use Rattle.jm_edge.specs.declared.arrival.Sent.{Sent}
use Rattle.jm_edge.specs.declared.fault.EdgeFault.{EdgeFault}

-- The bytes of the link that a socket was made from: those that were still to be read, those that
-- were written, and those that were read past the request for the socket and given to it.
pub record Origin : Type 0 where
  pub left : List ℕ
  pub held : List ℕ
  pub early : List ℕ

-- This arrived: the first of what was to arrive, where that is known; now the rest is to arrive.
-- Once nothing is, the connection is closed.
abbrev pub Arrives : Option (List Arrival) → Option (List Arrival) → Arrival → Type 0
Arrives None now a = ⊤
Arrives (Some []) now a = (a ≡ Closed) × (now ≡ Some [])
Arrives (Some (x ∷ xs)) now a = (a ≡ x) × (now ≡ Some xs)

-- what was sent with one more item, where it is known
abbrev pub sent_with : Option (List Sent) → Sent → Option (List Sent)
sent_with None s = None
sent_with (Some sent) s = Some (sent ++ s ∷ [])

-- after Ok the item was sent after the others, and after an error nothing was
abbrev pub Sends : {T : Type 0} → Option (List Sent) → Option (List Sent) → Sent
    → Result T EdgeFault → Type 0
Sends before now s (Ok _) = now ≡ sent_with before s
Sends before now s (Err _) = now ≡ before

-- a link that exposed its bytes is known to the socket that was made from it, with the early bytes
abbrev pub IsKnownOrigin : Option (List ℕ) → Option (List ℕ) → List ℕ → Option Origin → Type 0
IsKnownOrigin None held early origin = ⊤
IsKnownOrigin (Some left) None early origin = ⊤
IsKnownOrigin (Some left) (Some held) early origin =
    origin ≡ Some (record { left = left; held = held; early = early })
