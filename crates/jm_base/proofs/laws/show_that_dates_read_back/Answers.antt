use Rattle.jm_base.proofs.WrittenDates.{date_reads_back, text_has_one_date}
use Rattle.jm_base.specs.UtcDates.{utc_text}
use Rattle.jm_base.proofs.laws.show_that_dates_read_back.Goals as goal

pub returns : goal.returns
returns c = λ date is. (date_reads_back date is, λ other read. text_has_one_date (utc_text date) date other (date_reads_back date is) read)
