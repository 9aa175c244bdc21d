use Rattle.std.proofs.Common.{◌≡◌, ◌++◌, length}
use Rattle.mail_summary.specs.Texts.{with_line_feeds}
use Rattle.mail_summary.proofs.texts_lines.replace_line_ends.Given as goal

abbrev pub invariant-loop-left : goal.invariant-loop-left
invariant-loop-left l = l.out.items ++ with_line_feeds l.left ≡ with_line_feeds l.text

abbrev pub decreases-loop-left : goal.decreases-loop-left
decreases-loop-left l = length l.left
