use Rattle.std.proofs.Common.{◌≡◌, drop}
use Rattle.jm_json.specs.Patch.{goes_on}
use Rattle.jm_json.proofs.patches.is_path_prefix.Given as goal

abbrev pub invariant-loop-b : goal.invariant-loop-b
invariant-loop-b l = goes_on l.path l.longer ≡ goes_on (drop l.b-index l.path) l.rest
