use Rattle.std.proofs.Common.{◌≡◌, map, drop}
use Rattle.get_calls.specs.Members.{remove_all}
use Rattle.get_calls.proofs.members.remove_members.Given as goal

abbrev pub invariant-loop-name : goal.invariant-loop-name
invariant-loop-name l = remove_all (map (λ t. t.now) l.names) l.fn.members ≡ remove_all (map (λ t. t.now) (drop l.name-index l.names)) l.members
