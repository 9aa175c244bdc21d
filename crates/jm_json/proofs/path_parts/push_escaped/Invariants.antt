use Rattle.std.proofs.Common.{◌≡◌, ◌++◌, drop}
use Rattle.jm_json.specs.Integers.{pointer_part}
use Rattle.jm_json.proofs.path_parts.push_escaped.Given as goal

abbrev pub invariant-loop-byte : goal.invariant-loop-byte
invariant-loop-byte l = l.path.items ++ pointer_part (drop l.byte-index l.name) ≡ l.initial.path.items ++ pointer_part l.name
