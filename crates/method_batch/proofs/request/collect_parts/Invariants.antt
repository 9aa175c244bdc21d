use Rattle.std.proofs.Common.{◌≡◌, map, option_map, length, codes}
use Rattle.std.specs.Option.{option_or}
use Rattle.jm_json.specs.Json.{tree_of, member_of}
use Rattle.jm_json.specs.Find.{find}
use Rattle.method_batch.proofs.request.collect_parts.Given as goal

abbrev pub invariant-loop-member : goal.invariant-loop-member
invariant-loop-member l = record {
  using : find (codes "using") l.fn.members ≡ option_or (option_map tree_of l.parts.using) (find (codes "using") (map member_of l.rest.items));
  calls : find (codes "methodCalls") l.fn.members ≡ option_or (option_map tree_of l.parts.calls) (find (codes "methodCalls") (map member_of l.rest.items));
  created : find (codes "createdIds") l.fn.members ≡ option_or (option_map tree_of l.parts.created) (find (codes "createdIds") (map member_of l.rest.items));
}

abbrev pub decreases-loop-member : goal.decreases-loop-member
decreases-loop-member l = length l.rest.items
