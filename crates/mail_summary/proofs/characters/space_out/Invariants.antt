use Rattle.std.proofs.Common.{◌≡◌, ◌++◌, drop}
use Rattle.mail_summary.specs.Texts.{with_gap_if, spaced}
use Rattle.mail_summary.proofs.characters.space_out.Given as goal

abbrev pub invariant-loop-c : goal.invariant-loop-c
invariant-loop-c l = l.out.items ++ with_gap_if l.gap (spaced (drop l.c-index l.text)) ≡ spaced l.text
