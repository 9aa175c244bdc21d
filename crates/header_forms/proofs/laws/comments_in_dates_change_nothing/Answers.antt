use Rattle.header_forms.proofs.DateComments.{date_same, utc_same}
use Rattle.header_forms.proofs.laws.comments_in_dates_change_nothing.Goals as goal

pub returns-clause-date : goal.returns-clause-date
returns-clause-date c = date_same

pub returns-clause-timestamp : goal.returns-clause-timestamp
returns-clause-timestamp c = utc_same
