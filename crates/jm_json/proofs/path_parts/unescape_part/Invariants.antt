use Rattle.std.proofs.Common.{◌≡◌, ◌++◌, length, option_map}
use Rattle.jm_json.specs.Pointer.{name_of}
use Rattle.jm_json.proofs.path_parts.unescape_part.Given as goal

abbrev pub invariant-bytes : goal.invariant-bytes
invariant-bytes l = name_of l.part ≡ option_map (λ k. l.name.items ++ k) (name_of l.rest)

abbrev pub decreases-bytes : goal.decreases-bytes
decreases-bytes l = length l.rest
