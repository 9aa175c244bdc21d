-- How long a piece of some bytes is.
use Rattle.std.proofs.Common.{◌≡◌, ℕ, ◌-◌, ◌≤◌, List, length, take, drop, arith, length-drop}
use Rattle.std.proofs.lemmas.List.{length-take-le}

pub length-piece : (bytes : List ℕ) (start stop : ℕ) → stop ≤ length bytes → length (take (stop - start) (drop start bytes)) ≡ stop - start
length-piece bytes start stop h = length-take-le (stop - start) (drop start bytes) (omega (arith, length-drop start bytes))
