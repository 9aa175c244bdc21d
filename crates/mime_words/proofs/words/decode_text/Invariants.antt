use Rattle.std.proofs.Common.{◌≡◌, ◌++◌, length, string_bytes}
use denote.Shadow.{shadow}
use denote.Text.{Utf8}
use Rattle.mime_words.specs.Words.{cut, decoded_words}
use Rattle.mime_words.specs.Views.{said_with}
use Rattle.mime_words.proofs.words.decode_text.Given as goal

abbrev pub invariant-loop-front : goal.invariant-loop-front
invariant-loop-front l = record {
  text : shadow (Utf8 l.rest);
  said : string_bytes l.out ++ said_with l.last (cut l.rest) ≡ decoded_words l.text;
}

abbrev pub decreases-loop-front : goal.decreases-loop-front
decreases-loop-front l = length l.rest
