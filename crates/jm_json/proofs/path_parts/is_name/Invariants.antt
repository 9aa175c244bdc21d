use Rattle.std.proofs.Common.{◌≡◌, length, is_some}
use Rattle.jm_json.specs.Pointer.{name_of}
use Rattle.jm_json.proofs.path_parts.is_name.Given as goal

abbrev pub invariant-bytes : goal.invariant-bytes
invariant-bytes l = is_some (name_of l.part) ≡ is_some (name_of l.rest)

abbrev pub decreases-bytes : goal.decreases-bytes
decreases-bytes l = length l.rest
