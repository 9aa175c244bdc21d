use Rattle.std.proofs.Common.{refl}
use Rattle.header_forms.specs.Dates.{time_by, date_time_by, date_time_in}
use Rattle.header_forms.proofs.laws.check_example_dates.Goals as goal

pub returns-clause-short_year : goal.returns-clause-short_year
unfolding time_by date_time_by date_time_in
returns-clause-short_year c = refl

pub returns-clause-no_day : goal.returns-clause-no_day
unfolding time_by date_time_by date_time_in
returns-clause-no_day c = refl

pub returns-clause-leap : goal.returns-clause-leap
unfolding time_by date_time_by date_time_in
returns-clause-leap c = refl

pub returns-clause-no_zone : goal.returns-clause-no_zone
unfolding time_by date_time_by date_time_in
returns-clause-no_zone c = refl
