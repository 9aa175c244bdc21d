use Rattle.std.proofs.Common.{◌≡◌, drop, bytes_eq}
use Rattle.jm_json.specs.Integers.{pointer_part}
use Rattle.jm_json.proofs.paths.is_written.Given as goal

abbrev pub invariant-loop-b : goal.invariant-loop-b
invariant-loop-b l = bytes_eq (pointer_part l.name) l.part ≡ bytes_eq (pointer_part (drop l.b-index l.name)) l.rest
