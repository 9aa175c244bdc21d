use Rattle.std.proofs.Common.{◌≡◌}
use Rattle.std.specs.Str.{IsUtf8}
use Rattle.client_lines.specs.Lines.{printed}
use Rattle.client_lines.proofs.subjects.has_control.Given as goal

abbrev pub invariant-loop-c : goal.invariant-loop-c
invariant-loop-c l = record {
  utf8 : IsUtf8 l.c-iterator.rest.now;
  same : printed l.c-iterator.rest.now ≡ l.c-iterator.rest.now → printed l.text ≡ l.text;
}
