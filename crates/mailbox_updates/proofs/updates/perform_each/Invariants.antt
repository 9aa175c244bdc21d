use Rattle.std.proofs.Common.{◌≡◌, ℕ, List, drop}
use Rattle.jm_json.specs.declared.invocation.Created.{Created}
use Rattle.set_parts.specs.Steps.{Progress}
use Rattle.set_parts.specs.Views.{AreDestroyed, AreMade}
use Rattle.mailbox_updates.specs.UpdateViews.{Updating}
use Rattle.mailbox_updates.proofs.Updating.{updates_from}
use Rattle.mailbox_updates.proofs.updates.perform_each.Given as goal

abbrev pub invariant-loop-update : goal.invariant-loop-update
invariant-loop-update l =
    (made : List Created) (destroys : List (List ℕ)) (s : Progress) → AreMade l.setting.created made
    → AreDestroyed l.setting.destroyed made destroys
    → Updating l.initial.current s
    → (t : Progress) × Updating l.current t
    × (updates_from l.alone made destroys t (drop l.update-index l.updates) ≡ updates_from l.alone made destroys s l.updates)
