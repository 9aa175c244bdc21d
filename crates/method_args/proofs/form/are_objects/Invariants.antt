use Rattle.std.proofs.Common.{◌≡◌, map, drop}
use Rattle.jm_json.specs.Json.{member_of}
use Rattle.method_args.specs.Arguments.{are_objects}
use Rattle.method_args.proofs.form.are_objects.Given as goal

abbrev pub invariant-loop-member : goal.invariant-loop-member
invariant-loop-member l = are_objects (map member_of l.members) ≡ are_objects (map member_of (drop l.member-index l.members))
