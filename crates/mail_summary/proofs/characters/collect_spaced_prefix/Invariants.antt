use Rattle.std.proofs.Common.{◌≡◌, ◌++◌, ℕ, List}
use Rattle.std.specs.Str.{IsUtf8, chars}
use Rattle.mail_summary.specs.Texts.{with_gap_if, spaced}
use Rattle.mail_summary.proofs.characters.collect_spaced_prefix.Given as goal

abbrev pub invariant-loop-c : goal.invariant-loop-c
invariant-loop-c l = record {
  utf8 : IsUtf8 l.c-iterator.rest.now;
  same : l.out.items ++ with_gap_if l.gap (spaced (chars l.c-iterator.rest.now)) ≡ spaced (chars l.text);
  more : (later : List ℕ) → l.out.items ++ with_gap_if l.gap (spaced (chars l.c-iterator.rest.now ++ later)) ≡ spaced (chars l.text ++ later);
}
