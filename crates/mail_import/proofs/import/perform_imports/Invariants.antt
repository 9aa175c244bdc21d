use Rattle.std.proofs.Common.{◌≡◌, ◌-◌, map, length, drop}
use Rattle.email_creates.specs.Emails.{Progress}
use Rattle.mail_import.specs.Imports.{after_imports}
use Rattle.set_parts.specs.Views.{create_of}
use Rattle.email_creates.specs.Views.{Follows, HasNumbersFor}
use Rattle.mail_import.proofs.import.perform_imports.Given as goal

abbrev pub invariant-loop-i : goal.invariant-loop-i
invariant-loop-i l = record {
  numbers : HasNumbersFor (length l.imports - l.i) l.planner;
  follows : (s : Progress) → Follows l.setting.content.now.content l.initial.planner s
      → (t : Progress) × Follows l.setting.content.now.content l.planner t
      × (after_imports l.setting.blobs.now.blobs l.setting.moment t (map create_of (drop l.i l.imports)) ≡ after_imports l.setting.blobs.now.blobs l.setting.moment s (map create_of l.imports));
}
