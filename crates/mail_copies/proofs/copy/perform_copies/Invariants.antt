use Rattle.std.proofs.Common.{◌≡◌, ◌-◌, map, length, drop, option_map}
use Rattle.set_parts.specs.Views.{create_of}
use Rattle.email_creates.specs.Emails.{Progress}
use Rattle.email_creates.specs.Views.{Follows}
use Rattle.mail_copies.specs.Copies.{after_copies}
use Rattle.mail_copies.specs.Views.{HasRoomFor, delivery_of}
use Rattle.mail_copies.proofs.copy.perform_copies.Given as goal

abbrev pub invariant-loop-i : goal.invariant-loop-i
invariant-loop-i l = record {
  numbers : HasRoomFor (length l.creates - l.i) l.planner;
  follows : (s : Progress) → Follows l.setting.content.now.content l.initial.planner s
      → (t : Progress) × Follows l.setting.content.now.content l.planner t
      × (after_copies l.setting.blobs.now.blobs l.setting.moment t (map create_of (drop l.i l.creates)) (drop l.i (map (λ d. option_map delivery_of d) l.deliveries))
      ≡ after_copies l.setting.blobs.now.blobs l.setting.moment s (map create_of l.creates) (map (λ d. option_map delivery_of d) l.deliveries));
}
