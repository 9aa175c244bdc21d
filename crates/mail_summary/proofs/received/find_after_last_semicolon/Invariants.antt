use Rattle.std.proofs.Common.{◌≡◌, ◌+◌, ◌≤◌, length}
use Rattle.std.specs.Option.{option_map, option_or}
use Rattle.mail_text.specs.declared.comment.State.TheVariants.{Outside}
use Rattle.mail_text.specs.Comments.{depth_of}
use Rattle.mail_summary.specs.Received.{after_last}
use Rattle.mail_summary.specs.Views.{bytes_in}
use Rattle.mail_summary.proofs.received.find_after_last_semicolon.Given as goal

abbrev pub invariant-loop-byte : goal.invariant-loop-byte
invariant-loop-byte l = record {
  same : option_or (after_last l.state l.rest) (option_map bytes_in l.last) ≡ after_last Outside l.text;
  size : depth_of l.state + length l.rest ≤ length l.text;
}

abbrev pub decreases-loop-byte : goal.decreases-loop-byte
decreases-loop-byte l = length l.rest
