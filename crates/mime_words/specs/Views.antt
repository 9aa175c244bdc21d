-- What contracts see of the code's own types.
use Rattle.std.specs.Prelude.{ℕ, false, List, [], Option, None, Some}
use denote.Ref.{Bor}
use Rattle.mime_words.specs.Words.{Shape, Word, Cut, word, joined, meaning, said}
use Rattle.mime_words.specs.declared.shape.Shape.{Shape as Shape'}
use Rattle.mime_words.specs.declared.words.Word.{Word as Word'}
use Rattle.mime_words.specs.declared.words.Found.{Found}

abbrev pub halves : Bor (List ℕ) × Bor (List ℕ) → List ℕ × List ℕ
halves x = (x.0.now, x.1.now)

abbrev pub shape_of : Shape' → Shape
shape_of s = record {
  charset = s.charset.now;
  encoding = s.encoding.now;
  encoded = s.encoded.now;
  rest = s.rest.now;
}

abbrev pub word_of : Word' → Word
word_of w = record { charset = w.charset; bytes = w.bytes }

abbrev pub found_of : Found → Word × List ℕ
found_of f = (word_of f.word, f.rest.now)

-- the decoding of an encoded-word that isn't written yet and of the cut text that follows it
abbrev pub said_after : Word' → Cut → List ℕ
said_after w later = said false (joined (word [] (word_of w) later))

-- the decoding of a cut text, with the encoded-word before it that isn't written yet, if there is
-- one
abbrev pub said_with : Option Word' → Cut → List ℕ
said_with None later = said false (joined later)
said_with (Some w) later = said_after w later

abbrev pub meaning_of : Option Word' → List ℕ
meaning_of None = []
meaning_of (Some w) = meaning (word_of w)
