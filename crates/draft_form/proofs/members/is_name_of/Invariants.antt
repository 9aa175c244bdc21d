use Rattle.std.proofs.Common.{◌≡◌, map, drop}
use Rattle.draft_form.specs.Members.{is_name_of}
use Rattle.draft_form.proofs.members.is_name_of.Given as goal

abbrev pub invariant-loop-known : goal.invariant-loop-known
invariant-loop-known l =
    is_name_of (map (λ t. t.now) l.names) l.name ≡ is_name_of (map (λ t. t.now) (drop l.known-index l.names)) l.name
