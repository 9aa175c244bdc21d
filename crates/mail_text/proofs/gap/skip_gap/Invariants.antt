use Rattle.std.proofs.Common.{◌≡◌, ◌+◌, ◌≤◌, length}
use Rattle.mail_text.specs.Comments.{gap_from, after_gap, is_white, depth_of}
use Rattle.mail_text.proofs.gap.skip_gap.Given as goal

abbrev pub invariant-loop-byte : goal.invariant-loop-byte
invariant-loop-byte l = record {
  same : gap_from (is_white l.white) l.rest l.state ≡ after_gap (is_white l.white) l.text;
  size : depth_of l.state + length l.rest ≤ length l.text;
  within : length l.rest ≤ length l.text;
}

abbrev pub decreases-loop-byte : goal.decreases-loop-byte
decreases-loop-byte l = length l.rest
