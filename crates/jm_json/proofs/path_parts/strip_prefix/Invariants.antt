use Rattle.std.proofs.Common.{◌≡◌, drop}
use Rattle.jm_json.specs.Pointer.{stripped}
use Rattle.jm_json.proofs.path_parts.strip_prefix.Given as goal

abbrev pub invariant-loop-byte : goal.invariant-loop-byte
invariant-loop-byte l = stripped (drop l.byte-index l.prefix) l.rest ≡ stripped l.prefix l.path
