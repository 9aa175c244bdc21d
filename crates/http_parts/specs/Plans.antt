-- What contracts see of how a body is read.
use Rattle.std.specs.Prelude.{◌≡◌, ⊤, ℕ, ◌≤◌, ◌-◌, ◌^◌, Bool, List, [], if◌then◌else◌}
use Rattle.http_parts.specs.Bodies.{Body, BodyInvalid, BodyTooLong, sized_body}
use Rattle.http_parts.specs.Chunks.{chunked_body}
use Rattle.http_parts.specs.declared.bodies.BodyPlan.{BodyPlan}
use Rattle.http_parts.specs.declared.bodies.BodyPlan.TheVariants.{Invalid as NoPlan, TooLong as IsOver, Sized as OfSize, Chunked as InChunks}

-- the body that is read in this way
abbrev pub planned : ℕ → BodyPlan → List ℕ → Body
planned limit NoPlan bytes = BodyInvalid
planned limit IsOver bytes = BodyTooLong
planned limit (OfSize size) bytes = sized_body limit size bytes
planned limit InChunks bytes = chunked_body limit bytes

-- a size is within the limit
abbrev pub IsWithinLimit : ℕ → BodyPlan → Type 0
IsWithinLimit limit NoPlan = ⊤
IsWithinLimit limit IsOver = ⊤
IsWithinLimit limit (OfSize size) = size ≤ limit
IsWithinLimit limit InChunks = ⊤

-- the bytes of a body that are kept: all of them, or none
abbrev pub kept_bytes : Bool → List ℕ → List ℕ
kept_bytes keep body = if keep then body else []
