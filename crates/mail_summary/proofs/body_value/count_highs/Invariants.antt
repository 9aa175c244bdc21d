use Rattle.std.proofs.Common.{◌≡◌, ◌≤◌, take}
use Rattle.std.specs.Str.{IsAscii}
use Rattle.mail_summary.proofs.body_value.count_highs.Given as goal

abbrev pub invariant-loop-byte : goal.invariant-loop-byte
invariant-loop-byte l = record {
  low : l.count ≡ 0 → IsAscii (take l.byte-index l.block);
  within : l.count ≤ l.byte-index;
}
