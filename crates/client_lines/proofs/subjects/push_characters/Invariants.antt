use Rattle.std.proofs.Common.{◌≡◌, ◌++◌, string_bytes}
use Rattle.std.specs.Str.{IsUtf8}
use Rattle.client_lines.specs.Lines.{printed}
use Rattle.client_lines.proofs.subjects.push_characters.Given as goal

abbrev pub invariant-loop-c : goal.invariant-loop-c
invariant-loop-c l = record {
  utf8 : IsUtf8 l.c-iterator.rest.now;
  same : string_bytes l.line ++ printed l.c-iterator.rest.now ≡ string_bytes l.fn.line ++ printed l.text;
}
