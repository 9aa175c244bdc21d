use Rattle.std.proofs.Common.{◌≡◌, ◌≤◌, ◌++◌, length, take}
use Rattle.mime_codec.specs.Quoted.{unescaped}
use Rattle.mime_codec.proofs.quoted.push_unescaped.Given as goal

abbrev pub invariant-loop-left : goal.invariant-loop-left
invariant-loop-left l = record {
  within : l.left ≤ length l.rest;
  text : l.out.items ++ unescaped (take l.left l.rest) ≡ l.fn.out.items ++ unescaped (take l.len l.text);
}

abbrev pub decreases-loop-left : goal.decreases-loop-left
decreases-loop-left l = l.left
