-- What follows the head of a message: its body (RFC 9112, 6).
use Rattle.std.specs.Prelude.{ℕ, ◌&&◌, nat_lt, List, [], ◌∷◌, length, take, drop, if◌then◌else◌}

-- What follows a head: its length is invalid; or it is longer than the limit; or it has not ended;
-- or it is this body, and those bytes come after it.
pub data Body : Type 0 where
  BodyInvalid BodyTooLong BodyUnfinished : Body
  Whole : (body rest : List ℕ) → Body

-- a body of so many bytes
abbrev pub sized_body : ℕ → ℕ → List ℕ → Body
sized_body limit size bytes =
    if nat_lt limit size then BodyTooLong
    else if nat_lt (length bytes) size then BodyUnfinished
    else Whole (take size bytes) (drop size bytes)
