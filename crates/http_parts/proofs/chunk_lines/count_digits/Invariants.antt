use Rattle.std.proofs.Common.{◌≡◌, ℕ, ◌<◌, get_or, true}
use Rattle.std.specs.Char.{is_ascii_hexdigit}
use Rattle.http_parts.proofs.chunk_lines.count_digits.Given as goal

abbrev pub invariant-loop-i : goal.invariant-loop-i
invariant-loop-i l = (k : ℕ) → k < l.i → is_ascii_hexdigit (get_or l.text k 0) ≡ true
