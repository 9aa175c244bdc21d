use Rattle.std.proofs.Common.{◌≡◌, map, drop}
use Rattle.draft_form.specs.Names.{is_one_of}
use Rattle.draft_form.proofs.names.is_one_of.Given as goal

abbrev pub invariant-loop-known : goal.invariant-loop-known
invariant-loop-known l =
    is_one_of (map (λ t. t.now) l.names) l.name ≡ is_one_of (map (λ t. t.now) (drop l.known-index l.names)) l.name
