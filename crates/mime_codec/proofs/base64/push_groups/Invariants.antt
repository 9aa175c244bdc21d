use Rattle.std.proofs.Common.{◌≡◌, ◌+◌, ◌*◌, ◌/◌, ◌≤◌, ◌++◌, length}
use Rattle.std.specs.Prelude.{vec_len, vec_capacity}
use Rattle.mime_codec.specs.Base64.{base64}
use Rattle.mime_codec.proofs.base64.push_groups.Given as goal

abbrev pub invariant-loop-group : goal.invariant-loop-group
invariant-loop-group l = record {
  bytes : l.out.items ++ base64 l.left ≡ l.fn.out.items ++ base64 l.text;
  room : vec_len l.out + length l.left / 4 * 3 ≤ vec_capacity l.out;
  within : length l.left ≤ length l.text;
}

abbrev pub decreases-loop-group : goal.decreases-loop-group
decreases-loop-group l = length l.left
