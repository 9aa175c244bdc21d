use Rattle.std.proofs.Common.{◌≡◌, ◌≤◌, ◌++◌, length, string_bytes}
use Rattle.std.specs.Str.{IsUtf8, chars}
use Rattle.mime_words.specs.WrittenWords.{words_by}
use Rattle.mime_writer.specs.Pieces.{words_from}
use Rattle.mime_writer.proofs.words.push_words.Given as goal

abbrev pub invariant-loop-c : goal.invariant-loop-c
invariant-loop-c l = record {
  utf8 : IsUtf8 l.c-iterator.rest.now;
  within : length (string_bytes l.piece) ≤ 45;
  same : l.out.items ++ words_from l.between (string_bytes l.piece) (chars l.c-iterator.rest.now) ≡ l.fn.out.items ++ words_by l.between l.text;
}
