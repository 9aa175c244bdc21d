-- The calls of one kind that were made, and which of them fail.
use Rattle.std.specs.Prelude.{ℕ, ◌+◌, ◌-◌, ◌^◌, ◌==◌, min, List, Bool, true, false}
use Rattle.std.specs.List.{list_any}
use Rattle.jm_edge.specs.declared.calls.Calls.{Calls}

-- the next value of a count of 64 bits, which stays at its end
abbrev pub one_on : ℕ → ℕ
one_on n = min (n + 1) (2 ^ 64 - 1)

-- the call with this number is one of those that fail
abbrev pub is_to_fail : List ℕ → ℕ → Bool
is_to_fail fails call = list_any (λ k. k == call) fails

-- the counts before the first call
abbrev pub not_called : List ℕ → Calls
not_called fails = record { made = 0; faults = 0; fails = fails }

-- the next call is one of those that fail
abbrev pub fails_next : Calls → Bool
fails_next c = is_to_fail c.fails (one_on c.made)

-- the counts after a call that did not fail
abbrev pub passed : Calls → Calls
passed c = record { made = one_on c.made; faults = c.faults; fails = c.fails }

-- the counts after a call that failed
abbrev pub failed : Calls → Calls
failed c = record { made = one_on c.made; faults = one_on c.faults; fails = c.fails }

-- the counts after a call that failed or not
abbrev pub counted : Bool → Calls → Calls
counted false c = passed c
counted true c = failed c
