use Rattle.std.proofs.Common.{Bor, ℕ, ◌≡◌, List, map, drop}
use Rattle.jm_json.specs.declared.invocation.Created.{Created}
use Rattle.set_parts.specs.Steps.{Progress, after_destroys}
use Rattle.set_parts.specs.Views.{AreMade}
use Rattle.mailbox_set.specs.Destroys.{destroy_mailbox}
use Rattle.mailbox_updates.specs.Views.{Tracks}
use Rattle.mailbox_set.proofs.destroys.perform_destroys.Given as goal

abbrev pub invariant-loop-i : goal.invariant-loop-i
invariant-loop-i l =
    (made : List Created) (s : Progress) → AreMade l.setting.created made → Tracks l.initial.current s
    → (t : Progress) × Tracks l.current t
    × (after_destroys (destroy_mailbox made l.setting.removes_emails) made t (drop l.i (map (λ (d : Bor (List ℕ)). d.now) l.destroys))
    ≡ after_destroys (destroy_mailbox made l.setting.removes_emails) made s (map (λ (d : Bor (List ℕ)). d.now) l.destroys))
