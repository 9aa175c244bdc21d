use Rattle.std.proofs.Common.{◌≡◌, ℕ, ◌<◌, get_or, true}
use Rattle.mime_type.specs.Characters.{is_bare}
use Rattle.mime_type.proofs.values.count_bare_bytes.Given as goal

abbrev pub invariant-loop-i : goal.invariant-loop-i
invariant-loop-i l = (k : ℕ) → k < l.i → is_bare (get_or l.text k 0) ≡ true
