use Rattle.std.proofs.Common.{◌≡◌, ◌≤◌, length, take}
use Rattle.std.specs.Prelude.{find, reverse}
use Rattle.mime_lines.specs.FieldOffsets.{is_named}
use Rattle.mime_lines.proofs.field.find_last_value.Given as goal

abbrev pub invariant-loop-left : goal.invariant-loop-left
invariant-loop-left l = record {
  size : l.left ≤ length l.fields;
  none : find (is_named l.bytes l.name) (reverse l.fields) ≡ find (is_named l.bytes l.name) (reverse (take l.left l.fields));
}

abbrev pub decreases-loop-left : goal.decreases-loop-left
decreases-loop-left l = l.left
