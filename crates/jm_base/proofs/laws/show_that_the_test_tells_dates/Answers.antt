use Rattle.std.proofs.Common.{sym}
use Rattle.jm_base.proofs.DateTests.{dated, dates_of_texts}
use Rattle.jm_base.proofs.laws.show_that_the_test_tells_dates.Goals as goal

pub returns : goal.returns
returns c = record { dated = λ text date h. sym (dated text date h); read = dates_of_texts }
