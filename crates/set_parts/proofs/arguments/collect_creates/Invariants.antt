use Rattle.std.proofs.Common.{◌≡◌, map, drop, ◌++◌}
use Rattle.std.specs.List.{filter_map}
use Rattle.jm_json.specs.Json.{member_of}
use Rattle.set_parts.specs.Arguments.{create_in}
use Rattle.set_parts.specs.Views.{create_of}
use Rattle.set_parts.proofs.arguments.collect_creates.Given as goal

abbrev pub invariant-loop-member : goal.invariant-loop-member
invariant-loop-member l =
    map create_of l.creates.items ++ filter_map create_in (map member_of (drop l.member-index l.members)) ≡ filter_map create_in (map member_of l.members)
