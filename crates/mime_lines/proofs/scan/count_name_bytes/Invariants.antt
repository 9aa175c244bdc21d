use Rattle.std.proofs.Common.{◌≡◌, ℕ, ◌<◌, get_or, true}
use Rattle.mime_lines.specs.Fields.{is_name_byte}
use Rattle.mime_lines.proofs.scan.count_name_bytes.Given as goal

abbrev pub invariant-loop-i : goal.invariant-loop-i
invariant-loop-i l = (k : ℕ) → k < l.i → is_name_byte (get_or l.line k 0) ≡ true
