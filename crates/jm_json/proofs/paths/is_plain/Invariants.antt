use Rattle.std.proofs.Common.{◌≡◌, ◌++◌, take, drop, option_map}
use Rattle.jm_json.specs.Pointer.{name_of}
use Rattle.jm_json.proofs.paths.is_plain.Given as goal

abbrev pub invariant-loop-b : goal.invariant-loop-b
invariant-loop-b l = name_of l.part ≡ option_map (λ k. take l.b-index l.part ++ k) (name_of (drop l.b-index l.part))
