-- How long a connection is waited for.
use Rattle.std.specs.Prelude.{ℕ, ◌+◌, ◌-◌, ◌/◌, min, Bool, not, ◌&&◌, ◌||◌, List, codes, nat_eq}
use Rattle.std.specs.List.{starts_with}
use Rattle.host_edges.specs.declared.patience.TheConstants.{MAX_WAIT_SECONDS, BYTES_PER_SECOND}

-- the bytes begin a final response (RFC 9110, 15)
abbrev pub is_final : List ℕ → Bool
is_final piece =
    starts_with nat_eq piece (codes "HTTP/1.1 ")
    && not (starts_with nat_eq piece (codes "HTTP/1.1 1"))

-- the bytes begin a response to a request that is rejected: one with a status from 400 on
abbrev pub is_rejection : List ℕ → Bool
is_rejection piece =
    starts_with nat_eq piece (codes "HTTP/1.1 4") || starts_with nat_eq piece (codes "HTTP/1.1 5")

-- the bytes begin a final response to a user that is known: one that is no 401
abbrev pub is_renewal : List ℕ → Bool
is_renewal piece = is_final piece && not (starts_with nat_eq piece (codes "HTTP/1.1 401"))

-- the seconds that a connection has for what it is waited for, if so many bytes came or were taken
abbrev pub allowed_seconds : ℕ → ℕ
allowed_seconds bytes = MAX_WAIT_SECONDS + bytes / BYTES_PER_SECOND

-- how many seconds are left of those after so many, at most the first ones
abbrev pub seconds_left : ℕ → ℕ → ℕ
seconds_left bytes waited = min (allowed_seconds bytes - waited) MAX_WAIT_SECONDS
