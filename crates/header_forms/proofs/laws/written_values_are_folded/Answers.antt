use Rattle.header_forms.proofs.WrittenFolds.{addresses_folded, date_folded, ids_folded, text_folded}
use Rattle.header_forms.proofs.laws.written_values_are_folded.Goals as goal

pub returns : goal.returns
returns c = record {
  texts = text_folded;
  identifiers = ids_folded;
  dates = date_folded;
  addresses = addresses_folded;
}
