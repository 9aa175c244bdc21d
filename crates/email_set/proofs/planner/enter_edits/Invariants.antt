use Rattle.std.proofs.Common.{◌≡◌, length}
use Rattle.std.specs.List.{AllByRecursion}
use Rattle.mail_records.specs.Contents.{Content}
use Rattle.set_parts.specs.Steps.{Progress, with_edits}
use Rattle.email_set.specs.Views.{Follows, IsOfEmail}
use Rattle.email_set.proofs.planner.enter_edits.Given as goal

abbrev pub invariant-loop-edit : goal.invariant-loop-edit
invariant-loop-edit l =
    (c : Content) (s : Progress) → Follows c l.initial.planner s → AllByRecursion IsOfEmail l.fn.edits
    → (t : Progress) × Follows c l.planner t × AllByRecursion IsOfEmail l.rest.items × (with_edits l.rest.items t ≡ with_edits l.fn.edits s)

abbrev pub decreases-loop-edit : goal.decreases-loop-edit
decreases-loop-edit l = length l.rest.items
