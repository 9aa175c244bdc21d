use Rattle.std.proofs.Common.{◌≡◌, ◌&&◌, map, drop}
use Rattle.std.specs.List.{list_all}
use Rattle.jm_json.specs.Tree.{fields_of}
use Rattle.jm_json.specs.Json.{member_of}
use Rattle.filter_terms.specs.Filters.{members_hold}
use Rattle.filter_terms.specs.Compiled.{match_each}
use Rattle.filter_terms.specs.Targets.{Target}
use Rattle.filter_terms.proofs.compile.read_members.Given as goal

abbrev pub invariant-loop-member : goal.invariant-loop-member
invariant-loop-member l =
    (x : Target) → (list_all (λ b. b) (match_each l.all.items x) && members_hold l.kind x (fields_of (map member_of (drop l.member-index l.members)))) ≡ members_hold l.kind x (fields_of (map member_of l.members))
