use Rattle.mime_words.proofs.Cuts.{text_stays}
use Rattle.mime_words.proofs.laws.texts_without_words_stay.Goals as goal

pub returns : goal.returns
returns c = text_stays
