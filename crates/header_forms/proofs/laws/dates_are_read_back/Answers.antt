use Rattle.std.proofs.Common.{ap, option_map}
use Rattle.mime_words.specs.Words.{◌>>=◌}
use Rattle.header_forms.specs.Dates.{date_time_text, if_in_range, unix_seconds}
use Rattle.header_forms.proofs.WrittenDates.{date_back}
use Rattle.header_forms.proofs.laws.dates_are_read_back.Goals as goal

pub returns : goal.returns
returns c = record {
  date_time = date_back;
  text = λ m h. ap (option_map date_time_text) (date_back m h);
  timestamp = λ m h. ap (λ o. o >>= (λ m. if_in_range (unix_seconds m))) (date_back m h);
}
