use Rattle.std.proofs.Common.{◌≡◌, ℕ, List, drop}
use Rattle.jm_json.specs.declared.invocation.Created.{Created}
use Rattle.set_parts.specs.Steps.{Progress}
use Rattle.set_parts.specs.Views.{AreDestroyed, AreMade}
use Rattle.email_set.specs.Views.{Follows}
use Rattle.email_set.proofs.Stepping.{updates_from}
use Rattle.email_set.proofs.steps.perform_updates.Given as goal

abbrev pub invariant-loop-update : goal.invariant-loop-update
invariant-loop-update l =
    (made : List Created) (destroys : List (List ℕ)) (s : Progress) → AreMade l.setting.created made
    → AreDestroyed l.setting.destroyed made destroys
    → Follows l.setting.content.now.content l.initial.planner s
    → (t : Progress) × Follows l.setting.content.now.content l.planner t
    × (updates_from made destroys t (drop l.update-index l.updates) ≡ updates_from made destroys s l.updates)
