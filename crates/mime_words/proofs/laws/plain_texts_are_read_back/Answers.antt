use Rattle.mime_words.proofs.WordsBack.{plain_back}
use Rattle.mime_words.proofs.laws.plain_texts_are_read_back.Goals as goal

pub returns : goal.returns
returns c = plain_back
