use Rattle.std.proofs.Common.{◌≡◌, ◌+◌, ◌≤◌, drop}
use Rattle.mime_codec.specs.Escapes.{escapes}
use Rattle.mime_codec.proofs.size.count_window_escapes.Given as goal

abbrev pub invariant-loop-i : goal.invariant-loop-i
invariant-loop-i l = record {
  same : l.count + escapes (drop l.i l.text) ≡ escapes l.text;
  within : l.count ≤ l.i;
}
