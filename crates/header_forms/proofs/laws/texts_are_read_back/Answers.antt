use Rattle.header_forms.proofs.WrittenTexts.{text_back}
use Rattle.header_forms.proofs.laws.texts_are_read_back.Goals as goal

pub returns : goal.returns
returns c = text_back
