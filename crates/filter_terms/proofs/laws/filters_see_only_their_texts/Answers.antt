use Rattle.filter_terms.proofs.OwnTexts.{own_texts_decide, texts_of_record_decide}
use Rattle.filter_terms.proofs.laws.filters_see_only_their_texts.Goals as goal

pub returns : goal.returns
returns c = record { emails = own_texts_decide; records = texts_of_record_decide }
