-- Encoded-words that are being written.
use Rattle.std.specs.Prelude.{ℕ, ◌-◌, List, length, map}
use Rattle.mime_lines.specs.Written.{parted_by}
use Rattle.mime_words.specs.WrittenWords.{max_word_bytes, onto_piece, pieces_from, word_text}

-- what is still to be written, if a piece has these bytes already and these characters follow
abbrev pub words_from : List ℕ → List ℕ → List ℕ → List ℕ
words_from between piece rest =
    parted_by between (map word_text
    (onto_piece piece (pieces_from (max_word_bytes - length piece) rest)))
