use Rattle.std.proofs.Common.{◌≡◌, ◌+◌, ◌≤◌, take, length}
use Rattle.std.specs.List.{suffix_len}
use Rattle.mime_lines.specs.Lines.{is_blank}
use Rattle.mime_codec.proofs.quoted.trim_end.Given as goal

abbrev pub invariant-loop-len : goal.invariant-loop-len
invariant-loop-len l = record {
  within : l.len ≤ length l.text;
  blank : l.len + suffix_len is_blank l.text ≡ length l.text + suffix_len is_blank (take l.len l.text);
}

abbrev pub decreases-loop-len : goal.decreases-loop-len
decreases-loop-len l = l.len
