use Rattle.std.proofs.Common.{Bor, ◌≡◌, List, ℕ, drop, map}
use Rattle.jm_json.specs.declared.invocation.Created.{Created}
use Rattle.set_parts.specs.Steps.{Progress}
use Rattle.set_parts.specs.Views.{AreMade}
use Rattle.email_set.specs.Views.{Follows}
use Rattle.email_set.proofs.Stepping.{destroys_from}
use Rattle.email_set.proofs.steps.perform_destroys.Given as goal

abbrev pub invariant-loop-i : goal.invariant-loop-i
invariant-loop-i l =
    (made : List Created) (s : Progress) → AreMade l.setting.created made
    → Follows l.setting.content.now.content l.initial.planner s
    → (t : Progress) × Follows l.setting.content.now.content l.planner t
    × (destroys_from made t (drop l.i (map (λ (d : Bor (List ℕ)). d.now) l.destroys)) ≡ destroys_from made s (map (λ (d : Bor (List ℕ)). d.now) l.destroys))
