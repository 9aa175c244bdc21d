use Rattle.mime_words.proofs.Cuts.{split_said}
use Rattle.mime_words.proofs.laws.split_words_are_joined.Goals as goal

pub returns : goal.returns
returns c = split_said
