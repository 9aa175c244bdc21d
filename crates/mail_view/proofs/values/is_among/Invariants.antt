use Rattle.std.proofs.Common.{◌≡◌, drop, Some}
use Rattle.mail_summary.specs.Leaves.{is_among}
use Rattle.mail_view.proofs.values.is_among.Given as goal

abbrev pub invariant-loop-other : goal.invariant-loop-other
invariant-loop-other l = is_among l.numbers (Some l.number) ≡ is_among (drop l.other-index l.numbers) (Some l.number)
