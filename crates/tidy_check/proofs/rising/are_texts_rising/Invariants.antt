use Rattle.std.proofs.Common.{◌≡◌, None, drop, option_map}
use Rattle.std.specs.Ordering.{nat_cmp}
use Rattle.std.specs.Cmp.Lexicographic.{slice_cmp}
use Rattle.tidy_check.specs.Checks.{rises_after}
use Rattle.tidy_check.proofs.rising.are_texts_rising.Given as goal

abbrev pub invariant-loop-text : goal.invariant-loop-text
invariant-loop-text l = rises_after (slice_cmp nat_cmp) (option_map (λ t. t.now) l.before) (drop l.text-index l.texts) ≡ rises_after (slice_cmp nat_cmp) None l.texts
