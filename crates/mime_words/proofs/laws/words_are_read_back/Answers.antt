use Rattle.mime_words.proofs.WordsBack.{words_back}
use Rattle.mime_words.proofs.laws.words_are_read_back.Goals as goal

pub returns : goal.returns
returns c = words_back
